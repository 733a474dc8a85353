-- Counts of segments that pass a test, when packets come, go and move. References are such counts, and so is the number of live segments with a given
-- mbuf.
use Rattle.std.proofs.Common.{◌≡◌, ◌≢◌, ℕ, zero, suc, ◌+◌, ◌≤◌, Bool, true, false, List, [], ◌∷◌, ◌++◌, Option, Some, None, refl, sym, ◌∙◌, ap, arith}
use Rattle.std.specs.Prelude.{slice_get, slice_set, flat_map}
use Rattle.std.proofs.lemmas.Option.{same_Some}
use Rattle.dp_model.specs.declared.queue.Queue.{Queue}
use Rattle.dp_model.specs.declared.queue.Queue.TheVariants.{Tx, Ring}
use Rattle.dp_model.specs.Packets.{Segment, Packet, at_front, at_end}
use Rattle.dp_model.specs.Machine.{State, World, live, segments_held, segments_listed, packets_in, with_queue, without_packet}
use Rattle.dp_model.specs.Runs.{first_state, between}
use Rattle.dp_model.specs.Laws.Cases.{one_if}
use Rattle.dp_model.specs.Laws.Lists.{get_set_other}
use Rattle.dp_model.specs.Laws.Counts.{tally, tally-cons, tally-append}

-- the count of what a register holds
abbrev pub tally_of : (Segment → Bool) → Option Packet → ℕ
tally_of test None = 0
tally_of test (Some k) = tally test k

-- a register set
pub tally_set : (test : Segment → Bool) (packets : List (Option Packet)) (p : ℕ) (o o' : Option Packet) → slice_get packets p ≡ Some o →
    tally test (segments_held (slice_set packets p o')) + tally_of test o ≡ tally test (segments_held packets) + tally_of test o'
tally_set test (None ∷ packets) zero None None h = refl
tally_set test (None ∷ packets) zero None (Some k) h = omega (arith, tally-append test k (segments_held packets))
tally_set test (Some k ∷ packets) zero (Some k') None h =
    let e : tally test k ≡ tally test k' = ap (λ o. tally_of test o) (same_Some (Some k) (Some k') h) in
    omega (arith, e, tally-append test k (segments_held packets))
tally_set test (Some k ∷ packets) zero (Some k') (Some l) h =
    let e : tally test k ≡ tally test k' = ap (λ o. tally_of test o) (same_Some (Some k) (Some k') h) in
    omega (arith, e, tally-append test k (segments_held packets), tally-append test l (segments_held packets))
tally_set test (None ∷ packets) (suc p) o o' h = tally_set test packets p o o' h
tally_set test (Some k ∷ packets) (suc p) o o' h =
    omega (arith, tally_set test packets p o o' h, tally-append test k (segments_held packets), tally-append test k (segments_held (slice_set packets p o')))
tally_set test x p o o' h = cc

-- ---- lists of packets
abbrev pub tally_list : (Segment → Bool) → List Packet → ℕ
tally_list test packets = tally test (flat_map (λ k. k) packets)

-- a ring or a transmit list set
pub tally_listed_set : (test : Segment → Bool) (lists : List (List Packet)) (i : ℕ) (old new : List Packet) → slice_get lists i ≡ Some old →
    tally test (segments_listed (slice_set lists i new)) + tally_list test old ≡ tally test (segments_listed lists) + tally_list test new
tally_listed_set test [] i old new h = cc
tally_listed_set test (l ∷ lists) zero old new h =
    let e : tally_list test l ≡ tally_list test old = ap (λ ks. tally_list test ks) (same_Some l old h) in
    omega (arith, e, tally-append test (flat_map (λ k. k) l) (segments_listed lists), tally-append test (flat_map (λ k. k) new) (segments_listed lists))
tally_listed_set test (l ∷ lists) (suc i) old new h =
    omega (
      arith,
      tally_listed_set test lists i old new h,
      tally-append test (flat_map (λ k. k) l) (segments_listed lists),
      tally-append test (flat_map (λ k. k) l) (segments_listed (slice_set lists i new)),
    )

-- one more packet at the end of a list
pub tally_push : (test : Segment → Bool) (packets : List Packet) (k : Packet) → tally_list test (packets ++ k ∷ []) ≡ tally_list test packets + tally test k
tally_push test [] k = omega (arith, tally-append test k [])
tally_push test (j ∷ packets) k =
    omega (arith, tally_push test packets k, tally-append test j (flat_map (λ k. k) (packets ++ k ∷ [])), tally-append test j (flat_map (λ k. k) packets))

-- ---- states: the live segments are those of registers, rings and transmit lists
pub tally_live : (test : Segment → Bool) (s : State) → tally test (live s)
    ≡ tally test (segments_held s.packets) + (tally test (segments_listed s.world.rings) + tally test (segments_listed s.world.outboxes))
tally_live test s =
    omega (
      arith,
      tally-append test (segments_held s.packets) (segments_listed s.world.rings ++ segments_listed s.world.outboxes),
      tally-append test (segments_listed s.world.rings) (segments_listed s.world.outboxes),
    )

-- a register of a state set
pub tally_live_set : (test : Segment → Bool) (s : State) (p : ℕ) (o o' : Option Packet) → slice_get s.packets p ≡ Some o →
    tally test (live (record s { packets = slice_set s.packets p o' })) + tally_of test o ≡ tally test (live s) + tally_of test o'
tally_live_set test s p o o' h =
    omega (arith, tally_set test s.packets p o o' h, tally_live test s, tally_live test (record s { packets = slice_set s.packets p o' }))

-- the packets of a queue set
tally_queue_set : (test : Segment → Bool) (s : State) (queue : Queue) (old new : List Packet) → packets_in queue s.world ≡ Some old →
    tally test (live (with_queue queue new s)) + tally_list test old ≡ tally test (live s) + tally_list test new
tally_queue_set test s (Tx port) old new h =
    let set = tally_live test (with_queue (Tx port) new s) in omega (arith, tally_live test s, set, tally_listed_set test s.world.outboxes port old new h)
tally_queue_set test s (Ring ring) old new h =
    let set = tally_live test (with_queue (Ring ring) new s) in omega (arith, tally_live test s, set, tally_listed_set test s.world.rings ring old new h)

-- a packet moves from a register to a queue
pub tally_to_queue : (test : Segment → Bool) (s : State) (p : ℕ) (queue : Queue) (k : Packet) (packets : List Packet) → slice_get s.packets p ≡ Some (Some k)
    → packets_in queue s.world ≡ Some packets → tally test (live (with_queue queue (packets ++ k ∷ []) (without_packet p s))) ≡ tally test (live s)
tally_to_queue test s p queue k packets holds there =
    omega (
      arith,
      tally_queue_set test (without_packet p s) queue packets (packets ++ k ∷ []) there,
      tally_live_set test s p (Some k) None holds,
      tally_push test packets k,
    )

-- one packet is appended to another
pub tally_chain : (test : Segment → Bool) (packets : List (Option Packet)) (p q : ℕ) (k t : Packet) → p ≢ q → slice_get packets p ≡ Some (Some k) →
    slice_get packets q ≡ Some (Some t) → tally test (segments_held (slice_set (slice_set packets p (Some (k ++ t))) q None))
    ≡ tally test (segments_held packets)
tally_chain test packets p q k t apart hp hq =
    let there : slice_get (slice_set packets p (Some (k ++ t))) q ≡ Some (Some t) = get_set_other packets p q (Some (k ++ t)) (λ e. apart (sym e)) ∙ hq in
    omega (
      arith,
      tally_set test packets p (Some k) (Some (k ++ t)) hp,
      tally_set test (slice_set packets p (Some (k ++ t))) q (Some t) None there,
      tally-append test k t,
    )

-- a node run begins with one packet more
pub tally_first : (test : Segment → Bool) (k : Packet) (number : ℕ) (w : World) → tally test (live (first_state k number w))
    ≡ tally test k + tally test (live (between w))
tally_first test k number w =
    omega (arith, tally_live test (first_state k number w), tally_live test (between w), tally-append test k [])

-- ---- the first or the last segment changes: at the front, in a way that the test does not see
pub tally_front : (test : Segment → Bool) (f : Segment → Segment) (k : Packet) → ((s : Segment) → test (f s) ≡ test s) → tally test (at_front f k)
    ≡ tally test k
tally_front test f [] same = refl
tally_front test f (s ∷ rest) same =
    let e : one_if (test (f s)) ≡ one_if (test s) = ap one_if (same s) in
    omega (arith, e, tally-cons test (f s) rest, tally-cons test s rest)

-- and at the end
pub tally_end : (test : Segment → Bool) (f : Segment → Segment) (k : Packet) → ((s : Segment) → test (f s) ≡ test s) → tally test (at_end f k) ≡ tally test k
tally_end test f [] same = refl
tally_end test f (s ∷ []) same =
    let e : one_if (test (f s)) ≡ one_if (test s) = ap one_if (same s) in
    omega (arith, e, tally-cons test (f s) [], tally-cons test s [])
tally_end test f (s ∷ t ∷ rest) same =
    omega (arith, tally_end test f (t ∷ rest) same, tally-cons test s (at_end f (t ∷ rest)), tally-cons test s (t ∷ rest))

-- ---- where the first test passes the second does
pub tally_le : (test more : Segment → Bool) (xs : List Segment) → ((s : Segment) → test s ≡ true → more s ≡ true) → tally test xs ≤ tally more xs
tally_le test more [] implies = omega arith
tally_le test more (s ∷ rest) implies = go (test s) refl (tally_le test more rest implies)
  where
    go : (b : Bool) → test s ≡ b → tally test rest ≤ tally more rest → tally test (s ∷ rest) ≤ tally more (s ∷ rest)
    go true e later =
        let one : one_if (more s) ≡ 1 = ap one_if (implies s e) in
        let is : one_if (test s) ≡ 1 = ap one_if e in
        omega (arith, one, is, later, tally-cons test s rest, tally-cons more s rest)
    go false e later =
        let none : one_if (test s) ≡ 0 = ap one_if e in
        omega (arith, none, later, tally-cons test s rest, tally-cons more s rest)
