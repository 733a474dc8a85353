use Rattle.dp_engine.proofs.Registers.{handle, held}
use Rattle.dp_engine.proofs.machine.Machine.last_len.Goals as goal

pub handle_in-packet-requires : goal.handle_in-packet-requires
handle_in-packet-requires c = let (k, holds) = c.requires in handle _ _ c.args.p k c.self.view_is holds

pub last_len-requires : goal.last_len-requires
last_len-requires c = let (k, holds) = c.requires in (k, (held c.self.view_is c.self.invariant c.handle_in-packet.ensures holds).has, tt)

pub returns : goal.returns
returns c k holds = c.last_len.ensures k (held c.self.view_is c.self.invariant c.handle_in-packet.ensures holds).has
