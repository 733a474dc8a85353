use Rattle.dp_model.specs.Packets.{segment_bytes}
use Rattle.dp_engine.proofs.Registers.{handle, held, read_segment}
use Rattle.dp_engine.proofs.machine.Machine.segment_bytes.Goals as goal

pub handle_in-packet-requires : goal.handle_in-packet-requires
handle_in-packet-requires c = let (k, holds, _) = c.requires in handle _ _ c.args.p k c.self.view_is holds

pub segment_bytes-requires : goal.segment_bytes-requires
segment_bytes-requires c = let (k, holds, less) = c.requires in (k, (held c.self.view_is c.self.invariant c.handle_in-packet.ensures holds).has, less)

pub returns : goal.returns
returns c = read_segment _ _ (λ m. segment_bytes m.state.world.buffers) c.self.view_is c.self.invariant c.handle_in-packet.ensures c.segment_bytes.ensures.value
