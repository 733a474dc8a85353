use Rattle.std.proofs.Common.{length}
use Rattle.dp_model.specs.Packets.{packet_bytes}
use Rattle.dp_engine.proofs.Registers.{handle, held, read}
use Rattle.dp_engine.proofs.machine.Machine.length.Goals as goal

pub handle_in-packet-requires : goal.handle_in-packet-requires
handle_in-packet-requires c = let (k, holds) = c.requires in handle _ _ c.args.p k c.self.view_is holds

pub length-requires : goal.length-requires
length-requires c = let (k, holds) = c.requires in (k, (held c.self.view_is c.self.invariant c.handle_in-packet.ensures holds).has, tt)

pub returns : goal.returns
returns c = read _ _ (λ m k. length (packet_bytes m.state.world.buffers k)) c.self.view_is c.self.invariant c.handle_in-packet.ensures c.length.ensures.value
