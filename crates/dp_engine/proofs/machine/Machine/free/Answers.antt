use Rattle.dp_engine.proofs.Handles.{stand_freed}
use Rattle.dp_engine.proofs.Machines.{frees}
use Rattle.dp_engine.proofs.Registers.{handle, held}
use Rattle.dp_engine.proofs.machine.Machine.free.Goals as goal

pub handle_in-packet-requires : goal.handle_in-packet-requires
handle_in-packet-requires c = let (k, holds) = c.requires in handle _ _ c.args.p k c.self.view_is holds

pub free-requires : goal.free-requires
free-requires c = let (k, holds) = c.requires in (k, (held c.self.view_is c.self.invariant c.handle_in-packet.ensures holds).has, tt)

pub invariant_of-self : goal.invariant_of-self
invariant_of-self c =
    let (k, holds) = c.requires in
    let there = held c.self.view_is c.self.invariant c.handle_in-packet.ensures holds in
    rw (c.free.ensures.packets, c.from.ensures, c.number.ensures.same, c.empty.ensures) (stand_freed there c.self.invariant)

pub returns : goal.returns
returns c =
    let (k, holds) = c.requires in
    rw (c.free.ensures.packets, c.free.ensures.zones, c.from.ensures, c.number.ensures.same, c.empty.ensures)
    (frees c.self.view_is (held c.self.view_is c.self.invariant c.handle_in-packet.ensures holds))
