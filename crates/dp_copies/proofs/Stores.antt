-- Bytes stored in a packet are stored in its copy.
use Rattle.std.proofs.Common.{◌≡◌, ◌≢◌, ℕ, ◌+◌, ◌-◌, ◌<◌, ◌≤◌, Bool, List, [], ◌∷◌, ◌++◌, length, map, Option, Some, None, refl, ◌∙◌, ap, arith}
use Rattle.std.specs.Prelude.{slice_get, slice_set, slice_range, option_map}
use Rattle.dp_model.specs.declared.env.PoolSpec.{PoolSpec}
use Rattle.dp_model.specs.Arithmetic.{big_endian}
use Rattle.dp_model.specs.Environments.{room_at}
use Rattle.dp_model.specs.Buffers.{Number, same_number, bytes_of, overwritten}
use Rattle.dp_model.specs.Packets.{Segment, Packet, refs, first_len, IsHeadSole, stored, Lies, IsWithin, at_front}
use Rattle.dp_model.specs.Machine.{State, live, segments_held, segments_listed, Holds, with_buffers}
use Rattle.dp_model.specs.CopyMachine.{copy_put, with_stored}
use Rattle.dp_model.specs.Copies.{copy_of}
use Rattle.dp_model.specs.Laws.References.{refs-cons, refs_held, refs_two, live_parts}
use Rattle.dp_model.specs.Laws.Cases.{one_if}
use Rattle.dp_model.specs.Laws.Lists.{all_left}
use Rattle.dp_model.specs.Laws.Within.{all_held}
use Rattle.dp_model.specs.Laws.Stored.{bytes_other, bytes_same, range_overwritten}
use Rattle.dp_model.specs.Laws.StepsWithin.{length_big_endian}
use Rattle.dp_copies.proofs.States.{copied, same_lists}
use Rattle.dp_copies.proofs.Unchanged.{Same, copy_same, listed_same}
use Rattle.dp_copies.proofs.Lists.{map_one}
use Rattle.dp_copies.proofs.Lengths.{there}
use Rattle.dp_copies.proofs.Writes.{apart}

-- the packet's first segment is written, and so is the copy's first piece
stored_copy : (pools : List PoolSpec) (st : State) (s : Segment) (rest : Packet) (off w n : ℕ) → 0 < w → off + w ≤ s.len →
    s.offset + s.len ≤ room_at pools s.buffer.pool → length (bytes_of st.world.buffers s.buffer) ≡ room_at pools s.buffer.pool →
    Same pools st.world.buffers (stored off w n (s ∷ rest) st.world.buffers) rest → copy_of pools (stored off w n (s ∷ rest) st.world.buffers) (s ∷ rest)
    ≡ at_front (with_stored off (big_endian w n)) (copy_of pools st.world.buffers (s ∷ rest))
stored_copy pools st s rest off w n some short fits room same =
    let old = bytes_of st.world.buffers s.buffer in
    let new : List ℕ = big_endian w n in
    let bytes : bytes_of (stored off w n (s ∷ rest) st.world.buffers) s.buffer ≡ overwritten old (s.offset + off) new =
    bytes_same st.world.buffers s.buffer (overwritten old (s.offset + off) new) (omega (arith, some, short, fits, room)) in
    let range = ap (λ bs. slice_range bs s.offset (s.offset + s.len)) bytes
    ∙ range_overwritten old new s.offset s.len off (omega (arith, length_big_endian w n, short)) (omega (arith, fits, room)) in
    ap (λ bs. record { before = s.offset; bytes = bs; beyond = room_at pools s.buffer.pool - s.offset - s.len }
    ∷ copy_of pools (stored off w n (s ∷ rest) st.world.buffers) rest) range
    ∙ ap (λ c. record {
      before = s.offset;
      bytes = overwritten (slice_range old s.offset (s.offset + s.len)) off new;
      beyond = room_at pools s.buffer.pool - s.offset - s.len;
    } ∷ c)
    (copy_same pools st.world.buffers (stored off w n (s ∷ rest) st.world.buffers) rest same)

-- and no other packet changes
pub store_copies : (pools : List PoolSpec) (st : State) (p : ℕ) (k : Packet) (off w n : ℕ) (answers : List Bool) → Holds st p k → 0 < w
    → off + w ≤ first_len k →
    IsHeadSole (live st) k → IsWithin pools st.world.buffers (live st) → copied pools (with_buffers (stored off w n k st.world.buffers) st) answers
    ≡ copy_put p (Some (at_front (with_stored off (big_endian w n)) (copy_of pools st.world.buffers k))) (copied pools st answers)
unfolding Same
store_copies pools st p [] off w n answers holds some short sole well = absurd (omega arith)
store_copies pools st p (s ∷ rest) off w n answers holds some short sole well =
    let k : Packet = s ∷ rest in
    let old = st.world.buffers in
    let new = stored off w n k old in
    let lies = (all_held (Lies pools) st.packets p k (all_left (Lies pools) (segments_held st.packets) (segments_listed st.world.rings
    ++ segments_listed st.world.outboxes) well.lie) holds).0 in
    let others : (segments : List Segment) → ((b : Number) → one_if (same_number s.buffer b) + refs segments b ≤ refs (live st) b) →
    Same pools old new segments =
    λ segments within b one. bytes_other old s.buffer b _ (apart st s.buffer b (refs segments b) sole (within b) one) in
    let mine : (b : Number) → one_if (same_number s.buffer b) ≤ refs k b = λ b. omega (arith, refs-cons s rest b) in
    let head : copy_of pools new k ≡ at_front (with_stored off (big_endian w n)) (copy_of pools old k) =
    stored_copy pools st s rest off w n some short lies.fits (well.rooms s.buffer lies.number)
    (others rest (λ b. omega (arith, refs-cons s rest b, live_parts st b, refs_held st.packets p (Some k) b holds))) in
    let packets = map_one (option_map (copy_of pools old)) (option_map (copy_of pools new)) st.packets p (Some k) holds
    (λ i u ne there. other_register i u ne there (λ j segments. others j (λ b. segments b (mine b))))
    ∙ ap (λ c. slice_set (map (option_map (copy_of pools old)) st.packets) p (Some c)) head in
    let rings = listed_same pools old new st.world.rings (others (segments_listed st.world.rings)
    (λ b. omega (arith, mine b, live_parts st b, refs_held st.packets p (Some k) b holds))) in
    let outboxes = listed_same pools old new st.world.outboxes (others (segments_listed st.world.outboxes)
    (λ b. omega (arith, mine b, live_parts st b, refs_held st.packets p (Some k) b holds))) in
    same_lists (copied pools (with_buffers new st) answers) packets rings outboxes
  where
    other_register : (i : ℕ) (u : Option Packet) → i ≢ p → slice_get st.packets i ≡ Some u →
        ((j : Packet) → ((b : Number) → one_if (same_number s.buffer b) ≤ refs (s ∷ rest) b → one_if (same_number s.buffer b) + refs j b ≤ refs (live st) b) →
        Same pools st.world.buffers (stored off w n (s ∷ rest) st.world.buffers) j) →
        option_map (copy_of pools (stored off w n (s ∷ rest) st.world.buffers)) u ≡ option_map (copy_of pools st.world.buffers) u
    other_register i None ne there f = refl
    other_register i (Some j) ne there f =
        ap Some (copy_same pools st.world.buffers (stored off w n (s ∷ rest) st.world.buffers) j
        (f j (λ b le. omega (arith, le, live_parts st b, refs_two st.packets i p (Some j) (Some (s ∷ rest)) b ne there holds))))
