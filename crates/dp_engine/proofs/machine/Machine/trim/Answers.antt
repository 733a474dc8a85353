use Rattle.std.proofs.Common.{refl}
use Rattle.dp_engine.proofs.Registers.{handle, held, stand_changes, now_has}
use Rattle.dp_engine.proofs.machine.Machine.trim.Goals as goal

pub handle_in-packet-requires : goal.handle_in-packet-requires
handle_in-packet-requires c = let (k, holds, _) = c.requires in handle _ _ c.args.p k c.self.view_is holds

pub trim-requires : goal.trim-requires
trim-requires c = let (k, holds, le) = c.requires in (k, (held c.self.view_is c.self.invariant c.handle_in-packet.ensures holds).has, le)

pub invariant_of-self : goal.invariant_of-self
invariant_of-self c = stand_changes c.self.inside _ _ c.self.view_is c.self.invariant c.handle_in-packet.ensures c.trim.ensures.packets _ c.requires.1

pub returns : goal.returns
returns c = let a = c.trim.ensures in rw (a.zones, ← c.self.view_is) (now_has c.self.inside _ _ refl c.self.invariant c.handle_in-packet.ensures a.packets)
