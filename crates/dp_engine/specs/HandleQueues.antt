-- Internal: queues of handles, which are transmit lists and rings. What holds of both is stated once.
use Rattle.std.specs.Prelude.{◌≡◌, ℕ, ◌<◌, List, length, map, Option, slice_set}
use Rattle.dp_model.specs.declared.queue.Queue.{Queue}
use Rattle.dp_model.specs.declared.queue.Queue.TheVariants.{Tx, Ring}
use Rattle.dp_model.specs.Machine.{in_queue}
use Rattle.dp_ring.specs.Rings.{RingView}
use Rattle.dp_engine.specs.Handles.{Lists, lists_of, without_entries, entries_of}
use Rattle.dp_engine.specs.Queues.{QueuesView, ring_at}

-- the handles in a queue
abbrev pub handles_in : Queue → Lists → Option (List ℕ)
handles_in queue lists = in_queue queue lists.outboxes lists.rings

-- the lists with these handles in a queue
abbrev pub with_handles : Queue → List ℕ → Lists → Lists
with_handles (Tx port) xs lists = record lists { outboxes = slice_set lists.outboxes port xs }
with_handles (Ring ring) xs lists = record lists { rings = slice_set lists.rings ring xs }

-- the queue exists
abbrev pub IsQueue : Queue → List RingView → List RingView → Type 0
IsQueue (Tx port) rings outboxes = port < length outboxes
IsQueue (Ring ring) rings outboxes = ring < length rings

-- the ring that keeps the queue's handles
abbrev pub ring_of_queue : Queue → List RingView → List RingView → RingView
ring_of_queue (Tx port) rings outboxes = ring_at outboxes port
ring_of_queue (Ring ring) rings outboxes = ring_at rings ring

-- a machine's queues, one of which has these entries now
pub record Becomes (queue : Queue) (entries : List ℕ) (old new : QueuesView) : Type 0 where
  pub rings_stay : map without_entries new.rings ≡ map without_entries old.rings
  pub outboxes_stay : map without_entries new.outboxes ≡ map without_entries old.outboxes
  pub rings_have : map entries_of new.rings ≡ (with_handles queue entries (lists_of old.rings old.outboxes)).rings
  pub outboxes_have : map entries_of new.outboxes ≡ (with_handles queue entries (lists_of old.rings old.outboxes)).outboxes
