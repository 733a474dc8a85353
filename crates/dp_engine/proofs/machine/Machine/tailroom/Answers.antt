use Rattle.dp_model.specs.Packets.{tailroom}
use Rattle.dp_engine.proofs.Registers.{handle, held, read}
use Rattle.dp_engine.proofs.machine.Machine.tailroom.Goals as goal

pub handle_in-packet-requires : goal.handle_in-packet-requires
handle_in-packet-requires c = let (k, holds) = c.requires in handle _ _ c.args.p k c.self.view_is holds

pub tailroom-requires : goal.tailroom-requires
tailroom-requires c = let (k, holds) = c.requires in (k, (held c.self.view_is c.self.invariant c.handle_in-packet.ensures holds).has, tt)

pub returns : goal.returns
returns c = read _ _ (λ m. tailroom m.pools) c.self.view_is c.self.invariant c.handle_in-packet.ensures c.tailroom.ensures
