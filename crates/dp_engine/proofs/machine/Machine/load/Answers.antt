use Rattle.dp_model.specs.Arithmetic.{bytes_in}
use Rattle.dp_model.specs.Packets.{loaded}
use Rattle.dp_engine.proofs.Registers.{handle, held, read}
use Rattle.dp_engine.proofs.machine.Machine.load.Goals as goal

pub handle_in-packet-requires : goal.handle_in-packet-requires
handle_in-packet-requires c = let (k, holds, _) = c.requires in handle _ _ c.args.p k c.self.view_is holds

pub load-requires : goal.load-requires
load-requires c = let (k, holds, le) = c.requires in (k, (held c.self.view_is c.self.invariant c.handle_in-packet.ensures holds).has, le)

pub returns : goal.returns
returns c =
    read _ _ (λ m k. loaded c.args.offset (bytes_in c.args.width) k m.state.world.buffers) c.self.view_is c.self.invariant
    c.handle_in-packet.ensures c.load.ensures
