-- Handles that enter or leave a ring.
use Rattle.std.proofs.Common.{◌≡◌, ℕ, ◌+◌, ◌-◌, ◌<◌, Bool, true, false, List, [], ◌∷◌, ◌++◌, length, drop, map, Option, Some, None, refl, sym, ◌∙◌, ap, arith}
use Rattle.std.specs.Prelude.{slice_get, slice_set, nat_lt, if◌then◌else◌}
use Rattle.std.proofs.lemmas.Bool.{ltb-true, ltb-false, lt-ltb, le-ltb}
use Rattle.std.proofs.lemmas.List.{length-map, map-set}
use Rattle.dp_model.specs.Packets.{Packet}
use Rattle.dp_model.specs.Laws.Lists.{map_get}
use Rattle.dp_ring.specs.Rings.{RingView, room_in, with_more, without_first}
use Rattle.dp_model.specs.declared.queue.Queue.{Queue}
use Rattle.dp_model.specs.declared.queue.Queue.TheVariants.{Tx, Ring}
use Rattle.dp_model.specs.Machine.{packets_in}
use Rattle.dp_engine.specs.HandleQueues.{handles_in, IsQueue, ring_of_queue}
use Rattle.dp_engine.specs.Queues.{ring_at}
use Rattle.dp_engine.specs.Handles.{packet_at, packets_listed, without_entries, entries_of, lists_of, Core}
use Rattle.dp_engine.specs.declared.machine.Machine.TheInside.{Inside}
use Rattle.dp_engine.specs.MachineParts.{parts_of, core_of}
use Rattle.dp_engine.proofs.Machines.{list_of}
use Rattle.dp_engine.proofs.RingLemmas.{entries_at, frames_kept, frames_length, frame_count, first_of}

-- a ring has room for one more
room_test : (n count : ℕ) → nat_lt 0 (count - 1 - n) ≡ nat_lt (n + 1) count
room_test n count = go (nat_lt (n + 1) count) refl
  where
    go : (b : Bool) → nat_lt (n + 1) count ≡ b → nat_lt 0 (count - 1 - n) ≡ nat_lt (n + 1) count
    go true e = lt-ltb 0 (count - 1 - n) (omega (arith, ltb-true (n + 1) count e)) ∙ sym e
    go false e = le-ltb 0 (count - 1 - n) (omega (arith, ltb-false (n + 1) count e)) ∙ sym e

-- a ring has as many packets as entries
pub many_in : (slots : List (Option Packet)) (rings : List RingView) (i : ℕ) (packets : List Packet) → i < length rings
    → slice_get (packets_listed slots (map entries_of rings)) i ≡ Some packets → length packets ≡ length (ring_at rings i).entries
many_in slots rings i packets there box =
    let xs : List ℕ = (ring_at rings i).entries in
    let same = list_of slots (map entries_of rings) i xs packets (entries_at rings i there) box in
    sym (ap length same) ∙ length-map xs (packet_at slots)

pub room_is : (slots : List (Option Packet)) (rings : List RingView) (i : ℕ) (packets : List Packet) → i < length rings
    → slice_get (packets_listed slots (map entries_of rings)) i ≡ Some packets → nat_lt 0 (room_in (ring_at rings i)) ≡ nat_lt (length packets + 1)
    (ring_at (map without_entries rings) i).count
room_is slots rings i packets there box =
    let r : RingView = ring_at rings i in
    room_test (length r.entries) r.count
    ∙ ap (λ n. nat_lt (n + 1) r.count) (sym (many_in slots rings i packets there box))
    ∙ ap (nat_lt (length packets + 1)) (sym (frame_count rings i))

-- rings before and after an entry entered or left one of them, which has these entries then
pub record Became (rings rings' : List RingView) (i : ℕ) (entries : List ℕ) : Type 0 where
  pub frames : map without_entries rings' ≡ map without_entries rings
  pub lists : map entries_of rings' ≡ slice_set (map entries_of rings) i entries

pub pushed : (rings rings' : List RingView) (i h : ℕ) (b : Bool) → rings' ≡ (if b then slice_set rings i (with_more (ring_at rings i) (h ∷ [])) else rings)
    → b ≡ true → Became rings rings' i ((ring_at rings i).entries ++ h ∷ [])
pushed rings rings' i h b is taken =
    let r : RingView = with_more (ring_at rings i) (h ∷ []) in
    let e : rings' ≡ slice_set rings i r = is ∙ ap (λ (b : Bool). if b then slice_set rings i r else rings) taken in
    record {
      frames = ap (map without_entries) e ∙ frames_kept rings i r.entries;
      lists = ap (map entries_of) e ∙ map-set entries_of rings i r;
    }

pub popped : (rings rings' : List RingView) (i : ℕ) → rings' ≡ slice_set rings i (without_first (ring_at rings i) 1)
    → Became rings rings' i (drop 1 (ring_at rings i).entries)
popped rings rings' i e =
    let r : RingView = without_first (ring_at rings i) 1 in
    record {
      frames = ap (map without_entries) e ∙ frames_kept rings i r.entries;
      lists = ap (map entries_of) e ∙ map-set entries_of rings i r;
    }

-- the handles of a queue
pub handles_there : (queue : Queue) (rings outboxes : List RingView) → IsQueue queue rings outboxes
    → handles_in queue (lists_of rings outboxes) ≡ Some ((ring_of_queue queue rings outboxes).entries)
handles_there (Tx i) rings outboxes there = entries_at outboxes i there
handles_there (Ring i) rings outboxes there = entries_at rings i there

-- one of them is the first
pub first_in : (queue : Queue) (rings outboxes : List RingView) (h : ℕ) → IsQueue queue rings outboxes
    → Some h ≡ slice_get (ring_of_queue queue rings outboxes).entries 0
    → handles_in queue (lists_of rings outboxes) ≡ Some (h ∷ drop 1 (ring_of_queue queue rings outboxes).entries)
first_in queue rings outboxes h there first =
    handles_there queue rings outboxes there ∙ ap Some (first_of (ring_of_queue queue rings outboxes).entries h first)

-- a ring with packets has an entry
has_first : (slots : List (Option Packet)) (rings : List RingView) (i : ℕ) (k : Packet) (packets : List Packet) → i < length rings
    → slice_get (packets_listed slots (map entries_of rings)) i ≡ Some (k ∷ packets) → None ≡ slice_get (ring_at rings i).entries 0 → ⊥
has_first slots rings i k packets there box none =
    go (ring_at rings i).entries none (many_in slots rings i (k ∷ packets) there box)
  where
    go : (xs : List ℕ) → None ≡ slice_get xs 0 → length (k ∷ packets) ≡ length xs → ⊥
    go [] none e = absurd (omega (arith, e))
    go (x ∷ xs) none e = cc

-- the packets of a ring, by its entries
listed_in : (slots : List (Option Packet)) (i n : ℕ) (rings : List RingView) (lists : List (List Packet)) → i < length rings
    → packets_listed slots (map entries_of rings) ≡ lists → n ≡ length
    (ring_at rings i).entries → (packets : List Packet) × (slice_get lists i ≡ Some packets) × (n ≡ length packets)
listed_in slots i n rings lists there is many =
    let xs : List ℕ = (ring_at rings i).entries in
    let here = map_get (map (packet_at slots)) (map entries_of rings) i xs (entries_at rings i there) in
    (map (packet_at slots) xs, ap (λ l. slice_get l i) (sym is) ∙ here, many ∙ sym (length-map xs (packet_at slots)))

-- ---- in terms of what a view shows of a machine

module _ (m : Inside) (core : Core) (is : core_of (parts_of m) ≡ core) where
  pub queue_there : (queue : Queue) → IsQueue queue core.frames.rings core.frames.outboxes → IsQueue queue m.queues.rings m.queues.outboxes
  queue_there (Tx i) there = let e = ap (λ (c : Core). length c.frames.outboxes) is in omega (arith, e, there, frames_length m.queues.outboxes)
  queue_there (Ring i) there = let e = ap (λ (c : Core). length c.frames.rings) is in omega (arith, e, there, frames_length m.queues.rings)

  -- a queue with packets has a first handle
  pub first_there : (queue : Queue) (k : Packet) (packets : List Packet) → IsQueue queue core.frames.rings core.frames.outboxes
      → packets_in queue core.state.world ≡ Some (k ∷ packets) → None ≡ slice_get (ring_of_queue queue m.queues.rings m.queues.outboxes).entries 0 → ⊥
  first_there (Tx i) k packets there box none =
      has_first m.mbufs.store.slots m.queues.outboxes i k packets (queue_there (Tx i) there)
      (ap (λ (c : Core). slice_get c.state.world.outboxes i) is ∙ box) none
  first_there (Ring i) k packets there box none =
      has_first m.mbufs.store.slots m.queues.rings i k packets (queue_there (Ring i) there) (ap (λ (c : Core). slice_get c.state.world.rings i) is ∙ box) none

  -- its slots
  pub slots_at : (queue : Queue) → (ring_of_queue queue core.frames.rings core.frames.outboxes).count
      ≡ (ring_of_queue queue m.queues.rings m.queues.outboxes).count
  slots_at (Tx i) = ap (λ (c : Core). (ring_at c.frames.outboxes i).count) (sym is) ∙ frame_count m.queues.outboxes i
  slots_at (Ring i) = ap (λ (c : Core). (ring_at c.frames.rings i).count) (sym is) ∙ frame_count m.queues.rings i

  -- whether it has room for one more
  pub room_at : (queue : Queue) (packets : List Packet) → IsQueue queue core.frames.rings core.frames.outboxes
      → packets_in queue core.state.world ≡ Some packets
      → nat_lt 0 (room_in (ring_of_queue queue m.queues.rings m.queues.outboxes))
      ≡ nat_lt (length packets + 1) (ring_of_queue queue core.frames.rings core.frames.outboxes).count
  room_at (Tx i) packets there box =
      room_is m.mbufs.store.slots m.queues.outboxes i packets (queue_there (Tx i) there) (ap (λ (c : Core). slice_get c.state.world.outboxes i) is ∙ box)
      ∙ ap (λ (c : Core). nat_lt (length packets + 1) (ring_at c.frames.outboxes i).count) is
  room_at (Ring i) packets there box =
      room_is m.mbufs.store.slots m.queues.rings i packets (queue_there (Ring i) there) (ap (λ (c : Core). slice_get c.state.world.rings i) is ∙ box)
      ∙ ap (λ (c : Core). nat_lt (length packets + 1) (ring_at c.frames.rings i).count) is

  -- the number of packets that wait
  pub list_at : (queue : Queue) (n : ℕ) → IsQueue queue core.frames.rings core.frames.outboxes
      → n ≡ length (ring_of_queue queue m.queues.rings m.queues.outboxes).entries
      → (packets : List Packet) × (packets_in queue core.state.world ≡ Some packets) × (n ≡ length packets)
  list_at (Tx i) n there many =
      listed_in m.mbufs.store.slots i n m.queues.outboxes core.state.world.outboxes (queue_there (Tx i) there)
      (ap (λ (c : Core). c.state.world.outboxes) is) many
  list_at (Ring i) n there many =
      listed_in m.mbufs.store.slots i n m.queues.rings core.state.world.rings (queue_there (Ring i) there) (ap (λ (c : Core). c.state.world.rings) is) many
