-- The steps that load and store bytes.
use Rattle.std.proofs.Common.{◌≡◌, ℕ, ◌+◌, ◌<◌, ◌≤◌, Bool, List, [], ◌∷◌, length, Some, refl, ◌∙◌, ap, arith}
use Rattle.std.specs.Prelude.{slice_set, slice_range, nat_le}
use Rattle.std.proofs.lemmas.Bool.{le-leb}
use Rattle.dp_model.specs.Arithmetic.{big_endian, bytes_in, spelled}
use Rattle.dp_model.specs.Packets.{Packet, first_len, IsHeadSole, stored, loaded, at_front}
use Rattle.dp_model.specs.Machine.{State, live, Holds, with_buffers, At, Setting, with_number}
use Rattle.dp_model.specs.CopyMachine.{with_stored, copy_on, first_piece, provided, copy_loads, copy_stores}
use Rattle.dp_model.specs.Copies.{copy_of}
use Rattle.dp_model.specs.declared.registers.Width.{Width}
use Rattle.dp_model.specs.declared.registers.Width.TheVariants.{One, Two, Four, Eight}
use Rattle.dp_model.specs.Laws.Within.{IsInside}
use Rattle.dp_copies.proofs.States.{copied}
use Rattle.dp_copies.proofs.Lengths.{first_length, there}
use Rattle.dp_copies.proofs.Stores.{store_copies}
use Rattle.dp_copies.proofs.Moves.{held_step}
use Rattle.dp_copies.proofs.EditSteps.{edits_step}

-- a width is at least a byte
pub some_bytes : (w : Width) → 0 < bytes_in w
some_bytes One = omega arith
some_bytes Two = omega arith
some_bytes Four = omega arith
some_bytes Eight = omega arith

-- the same bytes are loaded
pub loads_step : (c : Setting) (st : State) (answers : List Bool) (p label offset w r : ℕ) (k : Packet) → IsInside c st → Holds st p k → 0 < w →
    offset + w ≤ first_len k → copy_loads (copied c.env.pools st answers) p label offset w r
    ≡ Some (At (label + 1), copied c.env.pools (with_number r (loaded offset w k st.world.buffers) st) answers)
loads_step c st answers p label offset w r k well holds some le =
    let pools = c.env.pools in
    let s = copied pools st answers in
    held_step pools st answers p k (λ k. provided (nat_le (offset + w) (length (first_piece k).bytes))
    (copy_on label (record s { numbers = slice_set s.numbers r (spelled (slice_range (first_piece k).bytes offset (offset + w))) }))) holds
    ∙ (ap (λ b. provided b (copy_on label (record s {
      numbers = slice_set s.numbers r
          (spelled (slice_range (first_piece (copy_of pools st.world.buffers k)).bytes offset (offset + w)));
    })))
    (le-leb (offset + w) _ (omega (arith, le, first_length pools st.world.buffers k (there c st p k well holds))))
    ∙ ap (λ n. Some (At (label + 1), record s { numbers = slice_set s.numbers r n })) (value k (omega (arith, le, some))))
  where
    value : (k : Packet) → 0 < first_len k → spelled (slice_range (first_piece (copy_of c.env.pools st.world.buffers k)).bytes offset (offset + w))
        ≡ loaded offset w k st.world.buffers
    value [] one = absurd (omega arith)
    value (s ∷ rest) one = refl

-- the same bytes are stored
pub stores_step : (c : Setting) (st : State) (answers : List Bool) (p label offset w n : ℕ) (k : Packet) → IsInside c st → Holds st p k → 0 < w →
    offset + w ≤ first_len k → IsHeadSole (live st) k → copy_stores (copied c.env.pools st answers) p label offset w n
    ≡ Some (At (label + 1), copied c.env.pools (with_buffers (stored offset w n k st.world.buffers) st) answers)
stores_step c st answers p label offset w n k well holds some le sole =
    edits_step c.env.pools st (with_buffers (stored offset w n k st.world.buffers) st) answers p label (λ k. nat_le (offset + w) (length (first_piece k).bytes))
    (at_front (with_stored offset (big_endian w n))) k holds
    (le-leb (offset + w) _ (omega (arith, le, first_length c.env.pools st.world.buffers k (there c st p k well holds))))
    (store_copies c.env.pools st p k offset w n answers holds some le sole well)
