-- Freeing all packets of a list, and taking the first that waits.
use Rattle.std.proofs.Common.{◌≡◌, ℕ, zero, suc, ◌≤◌, List, [], ◌∷◌, length, drop, map, Option, Some, None, refl, sym, ◌∙◌, ap}
use Rattle.std.proofs.Common.{subst, arith}
use Rattle.std.specs.Prelude.{slice_get, slice_set, MatchOption}
use Rattle.std.proofs.lemmas.Option.{same_Some}
use Rattle.std.proofs.lemmas.List.{map-set}
use Rattle.dp_model.specs.Buffers.{Buffers}
use Rattle.dp_model.specs.Packets.{Packet}
use Rattle.dp_model.specs.Machine.{State}
use Rattle.dp_model.specs.Runs.{Waiting, first_state, first_waiting}
use Rattle.dp_model.specs.Laws.Lists.{get_set_same, set_itself}
use Rattle.dp_model.specs.declared.queue.Queue.{Queue}
use Rattle.dp_model.specs.declared.queue.Queue.TheVariants.{Tx, Ring}
use Rattle.dp_engine.specs.Drains.{AtPacket}
use Rattle.dp_model.specs.Machine.{packets_in, with_queue}
use Rattle.dp_engine.specs.HandleQueues.{with_handles, IsQueue}
use Rattle.dp_engine.specs.Queues.{ring_at}
use Rattle.dp_engine.specs.Handles.{packet_at, entries_of, Core, moved}
use Rattle.dp_engine.specs.declared.machine.Machine.TheInside.{Inside}
use Rattle.dp_engine.specs.MachineParts.{MachineParts, parts_of, core_of, OccurOnce}
use Rattle.dp_engine.proofs.Draining.{waits_less}
use Rattle.dp_engine.proofs.Receive.{Idle, beginning}
use Rattle.dp_engine.proofs.Waits.{in_rings, IsFirst}

-- ---- the first that waits

-- the lists without the first handle of a ring
abbrev pub taken_from : ℕ → List ℕ → MachineParts → MachineParts
taken_from i xs m = record m { lists = with_handles (Ring i) xs m.lists }

-- it is in a register then
pub stand_first : (m : MachineParts) (i h : ℕ) (xs : List ℕ) → Idle m → slice_get m.lists.rings i ≡ Some (h ∷ xs) →
    OccurOnce (beginning h i (taken_from i xs m))
stand_first m i h xs idle there x = omega (arith, idle.each x, waits_less (Ring i) m.lists h x xs there)

-- what a machine does with the first that waits, if one does
abbrev pub StartsWith : Option (Waiting Packet) → Option ℕ → Core → Core → Type 0
StartsWith first result old new =
    MatchOption first
    ((result ≡ None) × (new ≡ old))
    (λ w. (result ≡ Some w.ring) × (new ≡ moved (first_state w.packet w.ring (record old.state.world { rings = w.rings })) old))

abbrev pub Starts : Option ℕ → Core → Core → Type 0
Starts result old new = StartsWith (first_waiting old.state.world.rings) result old new

pub starts_none : (core : Core) (w : List (List Packet)) → w ≡ core.state.world.rings → first_waiting w ≡ None → Starts None core core
starts_none core w is none =
    subst (λ (o : Option (Waiting Packet)). StartsWith o None core core) (sym (ap first_waiting (sym is) ∙ none)) (refl, refl)

pub starts_some : (core new : Core) (found : Waiting Packet) (w : List (List Packet)) → w ≡ core.state.world.rings → first_waiting w ≡ Some found
    → new ≡ moved (first_state found.packet found.ring (record core.state.world { rings = found.rings })) core → Starts (Some found.ring) core new
starts_some core new found w is first state =
    subst (λ (o : Option (Waiting Packet)). StartsWith o (Some found.ring) core new) (sym (ap first_waiting (sym is) ∙ first)) (refl, state)

pub starts_first : (m : Inside) (core : Core) (i h : ℕ) (xs : List ℕ) → core_of (parts_of m) ≡ core → IsFirst m.mbufs.store.slots m.queues.rings i
    → (ring_at m.queues.rings i).entries ≡ h ∷ xs → Starts (Some i) core (core_of (beginning h i (taken_from i xs (parts_of m))))
starts_first m core i h xs is first at =
    let slots = m.mbufs.store.slots in
    let new : Core = core_of (beginning h i (taken_from i xs (parts_of m))) in
    let found : Waiting Packet = record {
      ring = i;
      packet = packet_at slots h;
      rings = slice_set (in_rings slots m.queues.rings) i (map (packet_at slots) xs);
    } in
    let P : Core → Type 0 = λ c. new ≡ moved (first_state found.packet found.ring (record c.state.world { rings = found.rings })) c in
    starts_some core new found (in_rings slots m.queues.rings) (ap (λ (c : Core). c.state.world.rings) is) (first.is h xs at)
    (subst P is (rw (map-set (map (packet_at slots)) (map entries_of m.queues.rings) i xs) refl))

-- ---- the packets of a queue, from the first on

pub at_with : (queue : Queue) (xs ys : List Packet) (s : State) → packets_in queue s.world ≡ Some ys
    → packets_in queue (with_queue queue xs s).world ≡ Some xs
at_with (Tx i) xs ys s box = get_set_same s.world.outboxes i xs ys box
at_with (Ring i) xs ys s box = get_set_same s.world.rings i xs ys box

with_itself : (queue : Queue) (xs : List Packet) (s : State) → packets_in queue s.world ≡ Some xs → with_queue queue xs s ≡ s
with_itself (Tx i) xs s box = rw (set_itself s.world.outboxes i xs box) refl
with_itself (Ring i) xs s box = rw (set_itself s.world.rings i xs box) refl

set_again : {X : Type 0} (xs : List X) (i : ℕ) (a b : X) → slice_set (slice_set xs i a) i b ≡ slice_set xs i b
set_again [] i a b = refl
set_again (x ∷ xs) zero a b = refl
set_again (x ∷ xs) (suc i) a b = ap (λ l. x ∷ l) (set_again xs i a b)

with_again : (queue : Queue) (xs ys : List Packet) (s : State) → with_queue queue ys (with_queue queue xs s) ≡ with_queue queue ys s
with_again (Tx i) xs ys s = rw (set_again s.world.outboxes i xs ys) refl
with_again (Ring i) xs ys s = rw (set_again s.world.rings i xs ys) refl

-- a machine as it was, without the first packets of a queue
abbrev pub LeftAt : Queue → Core → Core → ℕ → Type 0
LeftAt queue start core n = (all : List Packet) → packets_in queue start.state.world ≡ Some all
    → core ≡ moved (with_queue queue (drop n all) start.state) start

pub left_all : (queue : Queue) (core : Core) → LeftAt queue core core 0
left_all queue core all box = ap (λ (s : State). moved s core) (sym (with_itself queue all core.state box))

drop_at : (packets : List Packet) (n : ℕ) (k : Packet) → slice_get packets n ≡ Some k → drop n packets ≡ k ∷ drop (suc n) packets
drop_at [] n k here = cc
drop_at (x ∷ packets) zero k here = ap (λ y. y ∷ packets) (same_Some x k here)
drop_at (x ∷ packets) (suc n) k here = drop_at packets n k here

drop_past : (packets : List Packet) (n : ℕ) → length packets ≤ n → drop n packets ≡ []
drop_past [] zero le = refl
drop_past [] (suc n) le = refl
drop_past (x ∷ packets) zero le = absurd (omega (arith, le))
drop_past (x ∷ packets) (suc n) le = drop_past packets n (omega (arith, le))

-- it begins with the next one
pub left_front : (queue : Queue) (start core : Core) (n : ℕ) (all : List Packet) (k : Packet) → LeftAt queue start core n
    → packets_in queue start.state.world ≡ Some all → slice_get all n ≡ Some k → packets_in queue core.state.world ≡ Some (k ∷ drop (suc n) all)
left_front queue start core n all k left box here =
    ap (λ (c : Core). packets_in queue c.state.world) (left all box) ∙ at_with queue (drop n all) all start.state box ∙ ap Some (drop_at all n k here)

-- what holds of the front of a transmit list holds of the next one, with the bytes that it had at the start
pub at_front : (P : Buffers → Packet → Type 0) (start core : Core) (port n : ℕ) (all : List Packet) (k : Packet) → LeftAt (Tx port) start core n
    → slice_get start.state.world.outboxes port ≡ Some all → slice_get all n ≡ Some k → AtPacket core port 0 (P core.state.world.buffers)
    → P start.state.world.buffers k
at_front P start core port n all k left box here at =
    subst (λ b. P b k) (ap (λ (c : Core). c.state.world.buffers) (left all box))
    (at (k ∷ drop (suc n) all) k (left_front (Tx port) start core n all k left box here) refl)

-- the queue is there still
pub left_there : (queue : Queue) (start core : Core) (xs : List Packet) → core ≡ moved (with_queue queue xs start.state) start
    → IsQueue queue start.frames.rings start.frames.outboxes → IsQueue queue core.frames.rings core.frames.outboxes
left_there queue start core xs is there = subst (λ (c : Core). IsQueue queue c.frames.rings c.frames.outboxes) (sym is) there

-- its packets change twice
pub changed_again : (queue : Queue) (start core core' : Core) (xs ys : List Packet) → core ≡ moved (with_queue queue xs start.state) start
    → core' ≡ moved (with_queue queue ys core.state) core → core' ≡ moved (with_queue queue ys start.state) start
changed_again queue start core core' xs ys is is' =
    is' ∙ ap (λ (c : Core). moved (with_queue queue ys c.state) c) is ∙ ap (λ (s : State). moved s start) (with_again queue xs ys start.state)

-- the front is gone
pub left_more : (queue : Queue) (start core core' : Core) (n : ℕ) (all : List Packet) (k : Packet) → LeftAt queue start core n
    → packets_in queue start.state.world ≡ Some all → slice_get all n ≡ Some k
    → ((packets : List Packet) (k : Packet) → packets_in queue core.state.world ≡ Some (k ∷ packets) →
    core' ≡ moved (with_queue queue packets core.state) core) → core' ≡ moved (with_queue queue (drop (suc n) all) start.state) start
left_more queue start core core' n all k left box here drops =
    changed_again queue start core core' (drop n all) (drop (suc n) all) (left all box)
    (drops (drop (suc n) all) k (left_front queue start core n all k left box here))

-- all are gone
pub left_none : (queue : Queue) (start core : Core) (n : ℕ) (all : List Packet) → LeftAt queue start core n
    → packets_in queue start.state.world ≡ Some all → length all ≤ n → core ≡ moved (with_queue queue [] start.state) start
left_none queue start core n all left box le =
    left all box ∙ ap (λ (packets : List Packet). moved (with_queue queue packets start.state) start) (drop_past all n le)
