-- A new packet: the result of the call is derived once, and each goal is one step from there.
use Rattle.std.proofs.Common.{sym}
use Rattle.dp_model.specs.Buffers.{ChangesOnly}
use Rattle.dp_model.specs.Packets.{allocated}
use Rattle.dp_engine.specs.MachineParts.{parts_of}
use Rattle.dp_engine.specs.Steps.{setting_in}
use Rattle.dp_engine.proofs.Registers.{Taken, allocated_taken, too_few}
use Rattle.dp_engine.proofs.machine.Machine.alloc.Goals as goal
use Rattle.dp_engine.proofs.machine.Machine.alloc.Goals.{In-Some}

-- the packet that is granted
given : (c : In-Some) → Taken (setting_in c.args.setting.now) (parts_of c.self.inside) c.alloc.new.self.store c.args.self.now c.args.into
    c.args.pool 1 c.in-Some.packet (allocated c.args.setting.now.env.pools) ChangesOnly
given c =
    allocated_taken c.self.view_is c.self.invariant c.requires.empty c.requires.pools (rw c.from.ensures at c.in-Some.ensures.packets)

pub invariant_of-self-in-Some : goal.invariant_of-self-in-Some
invariant_of-self-in-Some c =
    rw (c.put.ensures, c.number-in-Some.ensures, c.from-in-Some.ensures, c.number.ensures.same) (given (goal.at.invariant_of-self-in-Some c).In-Some).stand

pub returns-in-Some-clause-denied : goal.returns-in-Some-clause-denied
returns-in-Some-clause-denied c = sym ((given (goal.at.returns-in-Some-clause-denied c).In-Some).allowed (sym (rw c.pattern.ensures at c.if-is_listed.ensures)))

pub returns-in-Some-clause-given : goal.returns-in-Some-clause-given
returns-in-Some-clause-given c _ =
    let t = given (goal.at.returns-in-Some-clause-given c).In-Some in
    rw (c.put.ensures, c.number-in-Some.ensures, c.from-in-Some.ensures, c.number.ensures.same, c.alloc.ensures.zones)
    (t.ns, t.buffers, t.fresh, t.changes, t.state)

pub returns-in-None-clause-denied : goal.returns-in-None-clause-denied
returns-in-None-clause-denied c =
    sym (too_few (setting_in c.args.setting.now) (parts_of c.self.inside) _ c.args.self.now c.args.pool 1 (allocated c.self.inside.mbufs.store.pools)
    ChangesOnly c.self.view_is c.self.invariant c.requires.pools (sym (rw c.pattern.ensures at c.if-is_listed.ensures))
    (rw c.from.ensures at c.in-None.ensures.packets))
