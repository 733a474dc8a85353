use Rattle.dp_engine.proofs.Registers.{handle, held}
use Rattle.dp_engine.proofs.machine.Machine.headroom.Goals as goal

pub handle_in-packet-requires : goal.handle_in-packet-requires
handle_in-packet-requires c = let (k, holds) = c.requires in handle _ _ c.args.p k c.self.view_is holds

pub headroom-requires : goal.headroom-requires
headroom-requires c = let (k, holds) = c.requires in (k, (held c.self.view_is c.self.invariant c.handle_in-packet.ensures holds).has, tt)

pub returns : goal.returns
returns c k holds = c.headroom.ensures k (held c.self.view_is c.self.invariant c.handle_in-packet.ensures holds).has
