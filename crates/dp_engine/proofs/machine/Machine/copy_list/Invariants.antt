use Rattle.std.proofs.Common.{◌≡◌, ◌+◌, ◌++◌, List, length, map, take, Some}
use Rattle.std.specs.Prelude.{slice_get}
use Rattle.dp_model.specs.Packets.{Packet}
use Rattle.dp_engine.specs.Batches.{Frame, Holds, KeepsRest, frame_of, bytes_of_all}
use Rattle.dp_engine.proofs.machine.Machine.copy_list.Given as goal

abbrev pub invariant-loop-at : goal.invariant-loop-at
invariant-loop-at l = record {
  count : l.held.records ≡ l.fn.held.records + l.at;
  size : (packets : List Packet) → slice_get l.self.state.world.outboxes l.port ≡ Some packets → l.held.bytes ≡ l.fn.held.bytes
      + length (bytes_of_all (map (frame_of l.port l.self.state.world.buffers) (take l.at packets)));
  holds : (packets : List Packet) (frames : List Frame) → slice_get l.self.state.world.outboxes l.port ≡ Some packets → Holds l.time frames
      l.fn.records l.fn.bytes l.fn.held →
      Holds l.time (frames ++ map (frame_of l.port l.self.state.world.buffers) (take l.at packets)) l.records l.bytes l.held;
  rest : KeepsRest l.held l.fn.records l.records l.fn.bytes l.bytes;
  records : length l.records ≡ length l.fn.records;
  bytes : length l.bytes ≡ length l.fn.bytes;
}
