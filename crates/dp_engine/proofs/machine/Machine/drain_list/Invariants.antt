-- The first ones are written and gone, and all else is as it was.
use Rattle.std.proofs.Common.{◌≡◌, ◌+◌, ◌≤◌, List, length, take, false, Some}
use Rattle.std.specs.Prelude.{slice_get}
use Rattle.std.specs.List.{flat_map}
use Rattle.std.specs.Io.KnownBytes.{Appends}
use Rattle.dp_model.specs.Packets.{Packet}
use Rattle.dp_model.specs.declared.queue.Queue.TheVariants.{Tx}
use Rattle.dp_engine.specs.Drains.{record_of}
use Rattle.dp_engine.proofs.Clearing.{LeftAt}
use Rattle.dp_engine.proofs.machine.Machine.drain_list.Given as goal

abbrev pub invariant-loop-sent : goal.invariant-loop-sent
invariant-loop-sent g l = record {
  left : LeftAt (Tx l.port) l.fn.self l.self l.sent;
  wrote : (packets : List Packet) → slice_get l.fn.self.state.world.outboxes l.port ≡ Some packets → Appends (g.W.Sink.contents l.fn.w)
      (g.W.Sink.contents l.w) (flat_map (record_of l.unit l.time l.fn.self.state.world.buffers) (take l.sent packets));
  sound : g.W.Sink.is_broken l.fn.w ≡ false → g.W.Sink.is_broken l.w ≡ false;
  failures : g.W.Sink.failures l.w ≡ g.W.Sink.failures l.fn.w;
  counted : (packets : List Packet) → slice_get l.fn.self.state.world.outboxes l.port ≡ Some packets → g.W.Sink.calls l.w ≤ g.W.Sink.calls l.fn.w + length
      (flat_map (record_of l.unit l.time l.fn.self.state.world.buffers) (take l.sent packets));
}
