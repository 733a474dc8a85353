-- Steps that change, join or free packets.
use Rattle.std.proofs.Common.{◌≡◌, ◌≢◌, ℕ, ◌+◌, ◌≤◌, Bool, List, ◌++◌, length, Some, None, ◌∙◌, ap, arith, true, sym, not, ◌&&◌}
use Rattle.std.specs.Prelude.{nat_le, ◌==◌}
use Rattle.std.proofs.lemmas.Bool.{le-leb, ne_eqb}
use Rattle.std.proofs.lemmas.List.{map-append, length-map}
use Rattle.dp_model.specs.declared.env.PoolSpec.{PoolSpec}
use Rattle.dp_model.specs.Packets.{Packet, first_len, last_len, at_front, at_end, less_before, less_after}
use Rattle.dp_model.specs.Machine.{State, Holds, At, with_packet, without_packet, goes_on, Setting, Move}
use Rattle.dp_model.specs.CopyMachine.{Copy, copy_step, with_held, copy_put, copy_on, without_front}
use Rattle.dp_model.specs.CopyMachine.{without_back, provided, copy_edits}
use Rattle.dp_model.specs.Copies.{piece_of, copy_of}
use Rattle.dp_model.specs.declared.instr.Instr.{Instr}
use Rattle.dp_model.specs.Laws.Within.{IsInside}
use Rattle.dp_copies.proofs.States.{copied}
use Rattle.dp_copies.proofs.Lengths.{there}
use Rattle.dp_copies.proofs.Writes.{apart}
use Rattle.dp_copies.proofs.Shortening.{adj_copy, trim_copy}
use Rattle.dp_copies.proofs.Moves.{Does, by, held_step, put_copies}

-- an edit that is allowed and gives the same copy
pub edits_step : (pools : List PoolSpec) (st st' : State) (answers : List Bool) (p label : ℕ) (test : Copy → Bool) (f : Copy → Copy) (k : Packet) →
    Holds st p k → test (copy_of pools st.world.buffers k) ≡ true → copied pools st' answers
    ≡ copy_put p (Some (f (copy_of pools st.world.buffers k))) (copied pools st answers) → copy_edits (copied pools st answers) p label test f
    ≡ Some (At (label + 1), copied pools st' answers)
edits_step pools st st' answers p label test f k holds passes same =
    held_step pools st answers p k (λ k. provided (test k) (copy_on label (copy_put p (Some (f k)) (copied pools st answers)))) holds
    ∙ (ap (λ b. provided b (copy_on label (copy_put p (Some (f (copy_of pools st.world.buffers k))) (copied pools st answers)))) passes
    ∙ ap (λ t. Some (At (label + 1), t)) (sym same))

-- an instruction with such an edit
pub edited : (c : Setting) (label : ℕ) (s s' : State) (i : Instr) (m : Move) (later : List Bool) (p : ℕ) (test : Copy → Bool) (f : Copy → Copy) (k : Packet) →
    ((answers : List Bool) → copy_step c.env c.tables label (copied c.env.pools s answers) i ≡ copy_edits (copied c.env.pools s answers) p label test f) →
    m ≡ goes_on label s' → Holds s p k → test (copy_of c.env.pools s.world.buffers k) ≡ true → copied c.env.pools s' later
    ≡ copy_put p (Some (f (copy_of c.env.pools s.world.buffers k))) (copied c.env.pools s later) → Does c label s i later m
edited c label s s' i m later p test f k step is holds passes same =
    by c label s i later m _ is (step later ∙ edits_step c.env.pools s s' later p label test f k holds passes same)

-- adj and trim: a packet loses bytes
pub adj_copies : (c : Setting) (s : State) (p : ℕ) (k : Packet) (n : ℕ) (later : List Bool) → Holds s p k → n ≤ first_len k → IsInside c s →
    copied c.env.pools (with_packet p (at_front (less_before n) k) s) later
    ≡ copy_put p (Some (at_front (without_front n) (copy_of c.env.pools s.world.buffers k))) (copied c.env.pools s later)
adj_copies c s p k n later holds le well = put_copies c.env.pools s p (Some (at_front (less_before n) k)) later
    ∙ ap (λ x. copy_put p (Some x) (copied c.env.pools s later)) (adj_copy c.env.pools s.world.buffers k n le (there c s p k well holds))

pub trim_copies : (c : Setting) (s : State) (p : ℕ) (k : Packet) (n : ℕ) (later : List Bool) → Holds s p k → n ≤ last_len k → IsInside c s →
    copied c.env.pools (with_packet p (at_end (less_after n) k) s) later
    ≡ copy_put p (Some (at_end (without_back n) (copy_of c.env.pools s.world.buffers k))) (copied c.env.pools s later)
trim_copies c s p k n later holds le well = put_copies c.env.pools s p (Some (at_end (less_after n) k)) later
    ∙ ap (λ x. copy_put p (Some x) (copied c.env.pools s later)) (trim_copy c.env.pools s.world.buffers k n le (there c s p k well holds))

-- a packet that is freed
pub free_copies : (c : Setting) (label : ℕ) (s : State) (p : ℕ) (k : Packet) (later : List Bool) → Holds s p k →
    with_held (copied c.env.pools s later) p (λ k. Some (copy_on label (copy_put p None (copied c.env.pools s later))))
    ≡ Some (At (label + 1), copied c.env.pools (without_packet p s) later)
free_copies c label s p k later holds =
    held_step c.env.pools s later p k (λ k. Some (copy_on label (copy_put p None (copied c.env.pools s later)))) holds
    ∙ ap (λ t. Some (At (label + 1), t)) (sym (put_copies c.env.pools s p None later))

-- two packets that become one
pub chain_copies : (c : Setting) (label : ℕ) (s : State) (p q : ℕ) (k t : Packet) (later : List Bool) → Holds s p k → Holds s q t → p ≢ q →
    length k + length t ≤ 64 → with_held (copied c.env.pools s later) p (λ k. with_held (copied c.env.pools s later) q (λ t.
    provided (not (p == q) && nat_le (length k + length t) 64) (copy_on label (copy_put q None (copy_put p (Some (k ++ t)) (copied c.env.pools s later))))))
    ≡ Some (At (label + 1), copied c.env.pools (without_packet q (with_packet p (k ++ t) s)) later)
chain_copies c label s p q k t later hk ht apart few =
    let pools = c.env.pools in
    let copy = copy_of pools s.world.buffers in
    let x = copied pools s later in
    held_step pools s later p k (λ k. with_held x q (λ t. provided (not (p == q) && nat_le (length k + length t) 64)
    (copy_on label (copy_put q None (copy_put p (Some (k ++ t)) x))))) hk
    ∙ (held_step pools s later q t (λ t. provided (not (p == q) && nat_le (length (copy k) + length t) 64)
    (copy_on label (copy_put q None (copy_put p (Some (copy k ++ t)) x)))) ht
    ∙ (ap (λ b. provided (not b && nat_le (length (copy k) + length (copy t)) 64) (copy_on label (copy_put q None (copy_put p (Some (copy k ++ copy t)) x))))
    (ne_eqb p q apart)
    ∙ (ap (λ b. provided b (copy_on label (copy_put q None (copy_put p (Some (copy k ++ copy t)) x))))
    (le-leb (length (copy k) + length (copy t)) 64 (omega (
      arith,
      few,
      length-map k (piece_of pools s.world.buffers),
      length-map t (piece_of pools s.world.buffers),
    )))
    ∙ (ap (λ c. Some (copy_on label (copy_put q None (copy_put p (Some c) x)))) (sym (map-append (piece_of pools s.world.buffers) k t))
    ∙ (ap (λ x. Some (copy_on label (copy_put q None x))) (sym (put_copies pools s p (Some (k ++ t)) later))
    ∙ ap (λ x. Some (At (label + 1), x)) (sym (put_copies pools (with_packet p (k ++ t) s) q None later)))))))
