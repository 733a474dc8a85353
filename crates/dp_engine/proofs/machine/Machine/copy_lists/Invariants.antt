use Rattle.std.proofs.Common.{◌≡◌, length, take}
use Rattle.dp_engine.specs.Batches.{Holds, KeepsRest, frames_from}
use Rattle.dp_engine.proofs.machine.Machine.copy_lists.Given as goal

abbrev pub invariant-loop-port : goal.invariant-loop-port
invariant-loop-port l = record {
  holds : Holds l.time (frames_from 0 l.self.state.world.buffers (take l.port l.self.state.world.outboxes)) l.records l.bytes l.held;
  rest : KeepsRest l.held l.fn.records l.records l.fn.bytes l.bytes;
  records : length l.records ≡ length l.fn.records;
  bytes : length l.bytes ≡ length l.fn.bytes;
}
