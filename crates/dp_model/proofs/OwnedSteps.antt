-- Each step keeps each mbuf with one owner.
use Rattle.std.proofs.Common.{◌≡◌, ◌≢◌, ℕ, ◌+◌, ◌≤◌, Bool, List, [], ◌∷◌, ◌++◌, length, Some, None, refl, sym, ap, subst, arith}
use Rattle.dp_model.specs.declared.instr.Instr.{Instr}
use Rattle.dp_model.specs.declared.queue.Queue.{Queue}
use Rattle.dp_model.specs.Buffers.{Number, same_number}
use Rattle.dp_model.specs.Packets.{Segment, Packet, AreFresh, AreOwned, allocated, cloned, at_front, at_end}
use Rattle.dp_model.specs.Packets.{more_before, less_before, more_after, less_after}
use Rattle.dp_model.specs.Machine.{Setting, State, live, segments_held, Step, with_step, with_cut, without_packets, Move, Acts, Holds, IsEmpty}
use Rattle.dp_model.specs.Machine.{with_packet, without_packet, packets_in, with_queue}
use Rattle.dp_model.specs.Laws.References.{refs_held, live_parts}
use Rattle.dp_model.proofs.Counts.{tally_live, tally_live_set, tally_to_queue, tally_chain, tally_front, tally_end}
use Rattle.dp_model.specs.Laws.Counts.{tally, has_mbuf, is_indirect_at, AreFewer, fewer_owned, fewer_by}
use Rattle.dp_model.proofs.Owned.{AreMore, more_owned, allocated_direct, direct_comes, clone_comes}
use Rattle.dp_model.specs.Laws.Effects.{Effect, Kept, Calculated, Refused, Allocated, Cloned, Freed, Prepended, Appended, Adjusted, Trimmed, Chained}
use Rattle.dp_model.specs.Laws.Effects.{Stored, Queued, effect_of}
use Rattle.dp_model.specs.Laws.Steps.{budget_keeps}
use Rattle.dp_model.proofs.SoundClone.{refs_cloned}

abbrev pub HasOwners : Setting → State → Type 0
HasOwners c s = AreOwned c.env.pools (live s)

-- ---- kinds of change: every count grows by the packet's
pub more_by : (live live' : List Segment) (k : Packet) → ((test : Segment → Bool) → tally test live' ≡ tally test live + tally test k) → AreMore live live' k
more_by live live' k is = record {
  mbufs = λ n. is (has_mbuf n);
  buffers = λ n. is (λ s. same_number s.buffer n);
  indirects = λ n. is (is_indirect_at n);
}

-- the change of a segment keeps its mbuf and its buffer
abbrev pub KeepsBuffer : (Segment → Segment) → Type 0
KeepsBuffer f = (s : Segment) → ((f s).mbuf ≡ s.mbuf) × ((f s).buffer ≡ s.buffer)

see_mbuf : (f : Segment → Segment) (n : Number) → KeepsBuffer f → (s : Segment) → has_mbuf n (f s) ≡ has_mbuf n s
see_mbuf f n keeps s = ap (λ m. same_number m n) (keeps s).0

see_buffer : (f : Segment → Segment) (n : Number) → KeepsBuffer f → (s : Segment) → same_number (f s).buffer n ≡ same_number s.buffer n
see_buffer f n keeps s = ap (λ m. same_number m n) (keeps s).1

see_indirect : (f : Segment → Segment) (n : Number) → KeepsBuffer f → (s : Segment) → is_indirect_at n (f s) ≡ is_indirect_at n s
see_indirect f n keeps s = let e = see_mbuf f n keeps s in let g = see_buffer f n keeps s in cc

-- a register's packet changes, and no test of mbufs and buffers sees it
edit_owned : (c : Setting) (s : State) (p : ℕ) (f : Segment → Segment) (k k' : Packet) → KeepsBuffer f → Holds s p k →
    ((test : Segment → Bool) → ((x : Segment) → test (f x) ≡ test x) → tally test k' ≡ tally test k) → AreOwned c.env.pools (live s) →
    AreOwned c.env.pools (live (with_packet p k' s))
edit_owned c s p f k k' keeps holds same = fewer_owned c.env.pools (live s) (live (with_packet p k' s)) (record {
  mbufs = λ n. seen (has_mbuf n) (see_mbuf f n keeps);
  buffers = λ n. seen (λ x. same_number x.buffer n) (see_buffer f n keeps);
  indirects = λ n. seen (is_indirect_at n) (see_indirect f n keeps);
})
  where
    seen : (test : Segment → Bool) → ((x : Segment) → test (f x) ≡ test x) → tally test (live (with_packet p k' s)) ≤ tally test (live s)
    seen test sees = omega (arith, tally_live_set test s p (Some k) (Some k') holds, same test sees)

-- a packet comes into an empty register
pub packet_more : (s : State) (p : ℕ) (k : Packet) → IsEmpty s p → AreMore (live s) (live (with_packet p k s)) k
packet_more s p k empty = more_by (live s) (live (with_packet p k s)) k (λ test. omega (arith, tally_live_set test s p None (Some k) empty))

pub packet_fewer : (s : State) (p : ℕ) (k : Packet) → Holds s p k → AreFewer (live s) (live (without_packet p s))
packet_fewer s p k holds = fewer_by (live s) (live (without_packet p s)) (λ test. omega (arith, tally_live_set test s p (Some k) None holds))

chain_fewer : (s : State) (p q : ℕ) (k t : Packet) → p ≢ q → Holds s p k → Holds s q t → AreFewer (live s) (live (without_packet q (with_packet p (k ++ t) s)))
chain_fewer s p q k t apart hp hq =
    fewer_by (live s) (live (without_packet q (with_packet p (k ++ t) s)))
    (λ test. omega (arith, tally_live test s, tally_live test (without_packet q (with_packet p (k ++ t) s)), tally_chain test s.packets p q k t apart hp hq))

-- ---- a step
by : (c : Setting) (s s' : State) → s ≡ s' → HasOwners c s' → HasOwners c s
by c s s' is h = subst (HasOwners c) (sym is) h

queue_owned : (c : Setting) (s : State) (p : ℕ) (queue : Queue) (k : Packet) (packets : List Packet) → HasOwners c s → Holds s p k →
    packets_in queue s.world ≡ Some packets → HasOwners c (with_queue queue (packets ++ k ∷ []) (without_packet p s))
queue_owned c s p queue k packets owned holds there =
    let s' : State = with_queue queue (packets ++ k ∷ []) (without_packet p s) in
    fewer_owned c.env.pools (live s) (live s')
    (fewer_by (live s) (live s') (λ test. omega (arith, tally_to_queue test s p queue k packets holds there))) owned

alloc_owned : (c : Setting) (s : State) (p pool : ℕ) (ns : List Number) → HasOwners c s → IsEmpty s p → AreFresh c.env.pools (live s) pool 1 ns →
    HasOwners c (with_packet p (allocated c.env.pools ns) s)
alloc_owned c s p pool ns owned empty fresh =
    let k = allocated c.env.pools ns in
    more_owned c.env.pools (live s) (live (with_packet p k s)) k (packet_more s p k empty)
    (direct_comes c.env.pools (live s) pool 1 k ns (allocated_direct c.env.pools ns) fresh) owned

clone_owned : (c : Setting) (s : State) (p q pool : ℕ) (k : Packet) (ns : List Number) → HasOwners c s → IsEmpty s p → Holds s q k →
    AreFresh c.env.pools (live s) pool (length k) ns → HasOwners c (with_packet p (cloned ns k) s)
clone_owned c s p q pool k ns owned empty holds fresh =
    more_owned c.env.pools (live s) (live (with_packet p (cloned ns k) s)) (cloned ns k) (packet_more s p (cloned ns k) empty)
    (clone_comes c.env.pools (live s) pool ns k (λ n. omega (arith, refs_cloned ns k n fresh.count, refs_held s.packets q (Some k) n holds, live_parts s n))
    fresh) owned

pub effect_owned : (c : Setting) (s : State) (m : Move) → HasOwners c s → Effect c s m → HasOwners c m.state
effect_owned c s m owned (Kept is _) = by c m.state _ is owned
effect_owned c s m owned (Calculated numbers is _) = by c m.state _ is owned
effect_owned c s m owned (Refused is _) = by c m.state _ is owned
effect_owned c s m owned (Allocated p pool ns buffers empty fresh changes is _) = by c m.state _ is (alloc_owned c s p pool ns owned empty fresh)
effect_owned c s m owned (Cloned p q pool k ns holds empty fresh is _) = by c m.state _ is (clone_owned c s p q pool k ns owned empty holds fresh)
effect_owned c s m owned (Freed p k holds is _) =
    by c m.state _ is (fewer_owned c.env.pools (live s) (live (without_packet p s)) (packet_fewer s p k holds) owned)
effect_owned c s m owned (Prepended p n k holds le sole is _) =
    by c m.state _ is (edit_owned c s p (more_before n) k (at_front (more_before n) k)
    (λ s. (refl, refl)) holds (λ test sees. tally_front test (more_before n) k sees) owned)
effect_owned c s m owned (Appended p n k holds le sole is _) =
    by c m.state _ is (edit_owned c s p (more_after n) k (at_end (more_after n) k)
    (λ s. (refl, refl)) holds (λ test sees. tally_end test (more_after n) k sees) owned)
effect_owned c s m owned (Adjusted p n k holds le is _) =
    by c m.state _ is (edit_owned c s p (less_before n) k (at_front (less_before n) k)
    (λ s. (refl, refl)) holds (λ test sees. tally_front test (less_before n) k sees) owned)
effect_owned c s m owned (Trimmed p n k holds le is _) =
    by c m.state _ is (edit_owned c s p (less_after n) k (at_end (less_after n) k)
    (λ s. (refl, refl)) holds (λ test sees. tally_end test (less_after n) k sees) owned)
effect_owned c s m owned (Chained p q k t hk ht apart few is _) =
    by c m.state _ is (fewer_owned c.env.pools (live s) (live (without_packet q (with_packet p (k ++ t) s))) (chain_fewer s p q k t apart hk ht) owned)
effect_owned c s m owned (Stored p offset w n k holds le sole is _) = by c m.state _ is owned
effect_owned c s m owned (Queued p queue k packets holds there is _) = by c m.state _ is (queue_owned c s p queue k packets owned holds there)

pub acts_owned : (c : Setting) (label : ℕ) (s : State) (i : Instr) (m : Move) → HasOwners c s → Acts c label s i m → HasOwners c m.state
acts_owned c label s i m owned acts = effect_owned c s m owned (effect_of c label s i m acts)

-- a cut drops the packets of the registers
owned_cut : (c : Setting) (s : State) → HasOwners c s → HasOwners c (without_packets (with_cut s))
owned_cut c s owned =
    let t = without_packets (with_cut s) in
    let none : (test : Segment → Bool) → tally test (segments_held t.packets) ≡ 0 = λ test. refl in
    fewer_owned c.env.pools (live s) (live t) (fewer_by (live s) (live t) (λ test. omega (arith, none test, tally_live test s, tally_live test t))) owned

pub step_owned : (c : Setting) (program : List Instr) (label : ℕ) (s : State) (m : Move) → HasOwners c s → Step c program label s m → HasOwners c m.state
step_owned c program label s m owned st =
    let here = acts_owned c label (with_step s) st.instr st.effect owned st.acts in
    subst (λ m. HasOwners c m.state) (sym st.is) (budget_keeps (λ m. HasOwners c m.state) label st.effect here here (owned_cut c st.effect.state here))
