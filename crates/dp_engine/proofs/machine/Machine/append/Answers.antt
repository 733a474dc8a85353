use Rattle.std.proofs.Common.{◌≤◌, refl, subst, sym}
use Rattle.dp_model.specs.Packets.{tailroom}
use Rattle.dp_engine.proofs.Counts.{tail_sole}
use Rattle.dp_engine.proofs.Receive.{pools_of}
use Rattle.dp_engine.proofs.Registers.{handle, held, counts, stand_changes, now_has}
use Rattle.dp_engine.proofs.machine.Machine.append.Goals as goal

pub handle_in-packet-requires : goal.handle_in-packet-requires
handle_in-packet-requires c = let (k, holds, _, _) = c.requires in handle _ _ c.args.p k c.self.view_is holds

pub append-requires : goal.append-requires
append-requires c =
    let (k, holds, le, sole) = c.requires in
    let room = subst (λ pools. c.args.n ≤ tailroom pools k) (sym (pools_of _ _ c.self.view_is)) le in
    (k, (held c.self.view_is c.self.invariant c.handle_in-packet.ensures holds).has, (room, tail_sole _ _ k (counts _ _ c.self.view_is c.self.invariant) sole))

pub invariant_of-self : goal.invariant_of-self
invariant_of-self c = stand_changes c.self.inside _ _ c.self.view_is c.self.invariant c.handle_in-packet.ensures c.append.ensures.packets _ c.requires.1

pub returns : goal.returns
returns c = let a = c.append.ensures in rw (a.zones, ← c.self.view_is) (now_has c.self.inside _ _ refl c.self.invariant c.handle_in-packet.ensures a.packets)
