use Rattle.std.proofs.Common.{refl}
use Rattle.dp_engine.proofs.Counts.{head_sole}
use Rattle.dp_engine.proofs.Registers.{handle, held, counts, stand_changes, still_has}
use Rattle.dp_engine.proofs.machine.Machine.store.Goals as goal

pub handle_in-packet-requires : goal.handle_in-packet-requires
handle_in-packet-requires c = let (k, holds, _, _) = c.requires in handle _ _ c.args.p k c.self.view_is holds

pub store-requires : goal.store-requires
store-requires c =
    let (k, holds, le, sole) = c.requires in
    (k, (held c.self.view_is c.self.invariant c.handle_in-packet.ensures holds).has, (le, head_sole _ _ k (counts _ _ c.self.view_is c.self.invariant) sole))

pub invariant_of-self : goal.invariant_of-self
invariant_of-self c = stand_changes c.self.inside _ _ c.self.view_is c.self.invariant c.handle_in-packet.ensures c.store.ensures.packets _ c.requires.1

pub returns : goal.returns
returns c = let a = c.store.ensures in rw (a.zones, ← c.self.view_is) (still_has c.self.inside _ refl c.self.invariant c.handle_in-packet.ensures a.packets)
