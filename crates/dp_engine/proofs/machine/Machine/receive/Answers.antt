-- Receiving bytes: the result of the call is derived once, and each goal is one step from there.
use Rattle.std.proofs.Common.{sym}
use Rattle.dp_engine.specs.MachineParts.{parts_of}
use Rattle.dp_engine.specs.Steps.{setting_in}
use Rattle.dp_engine.proofs.Receive.{Given, empty_of, given, refused}
use Rattle.dp_engine.proofs.machine.Machine.receive.Goals as goal
use Rattle.dp_engine.proofs.machine.Machine.receive.Goals.{In-Some}

-- the packet that is received
taken : (c : In-Some) → Given (setting_in c.args.setting.now) (parts_of c.self.inside) c.receive.new.self.store c.args.self.now c.args.pool
    c.args.port c.in-Some.packet c.args.bytes.now
taken c = given c.self.view_is c.self.invariant c.requires.idle c.requires.pools c.in-Some.ensures.packets

pub set_first-requires : goal.set_first-requires
set_first-requires c = empty_of (parts_of c.self.inside) c.args.self.now c.self.view_is c.requires.idle

pub invariant_of-self-in-Some : goal.invariant_of-self-in-Some
invariant_of-self-in-Some c =
    rw (c.set_first.ensures, c.number.ensures) (taken (goal.at.invariant_of-self-in-Some c).In-Some).stand

pub returns-in-Some-clause-denied : goal.returns-in-Some-clause-denied
returns-in-Some-clause-denied c = sym ((taken (goal.at.returns-in-Some-clause-denied c).In-Some).allowed (sym (rw c.pattern.ensures at c.if-is_listed.ensures)))

pub returns-in-Some-clause-received : goal.returns-in-Some-clause-received
returns-in-Some-clause-received c _ =
    rw (c.set_first.ensures, c.number.ensures, c.from.ensures) (taken (goal.at.returns-in-Some-clause-received c).In-Some).state

pub returns-in-None-clause-denied : goal.returns-in-None-clause-denied
returns-in-None-clause-denied c =
    sym (refused (setting_in c.args.setting.now) (parts_of c.self.inside) _ c.args.self.now c.args.pool c.args.bytes.now c.self.view_is
    c.self.invariant c.requires.idle c.requires.pools (sym (rw c.pattern.ensures at c.if-is_listed.ensures)) c.in-None.ensures.packets)
