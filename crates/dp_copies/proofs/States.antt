-- A state as a state of copies.
use Rattle.std.specs.Prelude.{◌≡◌, Bool, List, Option, map, option_map}
use Rattle.dp_model.specs.declared.env.PoolSpec.{PoolSpec}
use Rattle.dp_model.specs.Machine.{State}
use Rattle.dp_model.specs.CopyMachine.{Copy, CopyState}
use Rattle.dp_model.specs.Copies.{copy_of}

-- a state as a state of copies, with these answers to come
abbrev pub copied : List PoolSpec → State → List Bool → CopyState
copied pools s answers = record {
  packets = map (option_map (copy_of pools s.world.buffers)) s.packets;
  numbers = s.numbers;
  jumps = s.jumps;
  rings = map (map (copy_of pools s.world.buffers)) s.world.rings;
  outboxes = map (map (copy_of pools s.world.buffers)) s.world.outboxes;
  to_answer = answers;
  cuts = s.world.cuts;
}

-- a state whose packets, rings and outboxes are written in another way
pub same_lists : (s : CopyState) {packets : List (Option Copy)} {rings outboxes : List (List Copy)} → s.packets ≡ packets → s.rings ≡ rings →
    s.outboxes ≡ outboxes → s ≡ record s { packets = packets; rings = rings; outboxes = outboxes }
same_lists s packets_are rings_are outboxes_are = λ i. record s { packets = packets_are i; rings = rings_are i; outboxes = outboxes_are i }
