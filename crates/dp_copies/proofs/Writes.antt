-- A write to a buffer with one reference changes the copy of one packet.
use Rattle.std.proofs.Common.{◌≡◌, ◌≢◌, ℕ, ◌+◌, ◌≤◌, Bool, false, List, map, Option, Some, None, refl, ◌∙◌, ap, subst, arith, ⊎_elim, sym}
use Rattle.std.specs.Prelude.{slice_get, slice_set, option_map}
use Rattle.std.proofs.lemmas.Bool.{cases_Bool}
use Rattle.std.proofs.lemmas.List.{map-set}
use Rattle.dp_model.specs.declared.env.PoolSpec.{PoolSpec}
use Rattle.dp_model.specs.Buffers.{Number, same_number, Buffers, bytes_of}
use Rattle.dp_model.specs.Packets.{Segment, Packet, refs}
use Rattle.dp_model.specs.Machine.{State, live, segments_listed, Holds, with_buffers, with_packet}
use Rattle.dp_model.specs.CopyMachine.{Copy, copy_put}
use Rattle.dp_model.specs.Copies.{copy_of}
use Rattle.dp_model.specs.Laws.Cases.{one_if}
use Rattle.dp_model.specs.Laws.References.{refs_held, refs_two, live_parts}
use Rattle.dp_model.specs.Laws.Stored.{same_is}
use Rattle.dp_copies.proofs.States.{copied, same_lists}
use Rattle.dp_copies.proofs.Unchanged.{Same, copy_same, listed_same}
use Rattle.dp_copies.proofs.Lists.{set_one}
use Rattle.dp_copies.proofs.Lengths.{there}

-- another segment has another buffer
pub apart : (st : State) (n b : Number) (other : ℕ) → refs (live st) n ≡ 1 → one_if (same_number n b) + other ≤ refs (live st) b → 1 ≤ other →
    same_number n b ≡ false
apart st n b other one both there = ⊎_elim
    (λ yes. let two : refs (live st) b ≡ 1 = subst (λ m. refs (live st) m ≡ 1) (same_is n b yes) one in
    let here : one_if (same_number n b) ≡ 1 = ap one_if yes in
    absurd (omega (arith, two, both, there, here)))
    (λ no. no)
    (cases_Bool (same_number n b))

-- a packet that has a buffer is counted among its references
pub counts : (k : Packet) (n b : Number) → 1 ≤ refs k n → one_if (same_number n b) ≤ refs k b
counts k n b one = ⊎_elim
    (λ yes. let e : refs k b ≡ refs k n = ap (refs k) (sym (same_is n b yes)) in
    let here : one_if (same_number n b) ≡ 1 = ap one_if yes in omega (arith, e, one, here))
    (λ no. let none : one_if (same_number n b) ≡ 0 = ap one_if no in omega (arith, none))
    (cases_Bool (same_number n b))

-- a packet is edited, and one of its buffers written
pub wrote : (pools : List PoolSpec) (st : State) (p : ℕ) (k k' : Packet) (n : Number) (new : Buffers) (c : Copy) (answers : List Bool) → Holds st p k →
    ((b : Number) → same_number n b ≡ false → bytes_of new b ≡ bytes_of st.world.buffers b) → refs (live st) n ≡ 1 → 1 ≤ refs k n → copy_of pools new k' ≡ c →
    copied pools (with_packet p k' (with_buffers new st)) answers ≡ copy_put p (Some c) (copied pools st answers)
unfolding Same
wrote pools st p k k' n new c answers holds changes sole one is =
    let old = st.world.buffers in
    let others : (segments : List Segment) → ((b : Number) → refs k b + refs segments b ≤ refs (live st) b) → Same pools old new segments =
    λ segments within b there. changes b (apart st n b (refs segments b) sole (omega (arith, within b, counts k n b one)) there) in
    let packets = map-set (option_map (copy_of pools new)) st.packets p (Some k')
    ∙ (ap (λ x. slice_set (map (option_map (copy_of pools new)) st.packets) p (Some x)) is
    ∙ set_one (option_map (copy_of pools old)) (option_map (copy_of pools new)) st.packets p (Some c) (other_register others)) in
    let rings = listed_same pools old new st.world.rings (others (segments_listed st.world.rings)
    (λ b. omega (arith, live_parts st b, refs_held st.packets p (Some k) b holds))) in
    let outboxes = listed_same pools old new st.world.outboxes (others (segments_listed st.world.outboxes)
    (λ b. omega (arith, live_parts st b, refs_held st.packets p (Some k) b holds))) in
    same_lists (copied pools (with_packet p k' (with_buffers new st)) answers) packets rings outboxes
  where
    other_register : ((segments : List Segment) → ((b : Number) → refs k b + refs segments b ≤ refs (live st) b) → Same pools st.world.buffers new segments) →
        (i : ℕ) (u : Option Packet) → i ≢ p → slice_get st.packets i ≡ Some u → option_map (copy_of pools new) u
        ≡ option_map (copy_of pools st.world.buffers) u
    other_register others i None ne there = refl
    other_register others i (Some j) ne there =
        ap Some (copy_same pools st.world.buffers new j (others j (λ b.
        omega (arith, live_parts st b, refs_two st.packets i p (Some j) (Some k) b ne there holds))))

-- the rest of the packet is the same
pub rest_same : (pools : List PoolSpec) (st : State) (p : ℕ) (k rest : Packet) (n : Number) (new : Buffers) → Holds st p k →
    ((b : Number) → same_number n b ≡ false → bytes_of new b ≡ bytes_of st.world.buffers b) → refs (live st) n ≡ 1 →
    ((b : Number) → one_if (same_number n b) + refs rest b ≤ refs k b) → copy_of pools new rest ≡ copy_of pools st.world.buffers rest
unfolding Same
rest_same pools st p k rest n new holds changes sole part =
    copy_same pools st.world.buffers new rest (λ b one. changes b (apart st n b (refs rest b) sole
    (omega (arith, part b, live_parts st b, refs_held st.packets p (Some k) b holds)) one))
