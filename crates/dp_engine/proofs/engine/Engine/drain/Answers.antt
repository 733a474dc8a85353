-- The drain of a port: its transmit list is found once, and each goal is one step from there. A list without packets stays as it is.
use Rattle.std.proofs.Common.{◌≡◌, ◌<◌, List, [], length, Some, refl, ap, arith}
use Rattle.std.specs.Prelude.{slice_get}
use Rattle.std.proofs.KnownBytes.{Appends-nil}
use Rattle.dp_model.specs.Packets.{Packet}
use Rattle.dp_engine.specs.Engines.{EngineState}
use Rattle.dp_engine.proofs.Called.{called_written}
use Rattle.dp_engine.proofs.Emptied.{port_within, box_at, sent_kept, sent_fits, none_at, drained_none}
use Rattle.dp_engine.proofs.Writing.{all_written}
use Rattle.dp_engine.proofs.engine.Engine.drain.Goals as goal
use Rattle.dp_engine.proofs.engine.Engine.drain.Goals.{After-drain_list}

-- the port is one of eight, and has a list
its_list : (g : _) (c : After-drain_list g)
    → (c.args.port < 8) × ((packets : List Packet) × (slice_get c.self.inside.machine.state.world.outboxes c.args.port ≡ Some packets))
its_list g c =
    let e = c.self.inside in
    let long = ap (λ (x : EngineState). length x.setting.env.ports) c.self.view_is in
    let here : c.args.port < length e.context.setting.env.ports = omega (arith, c.requires.exists, long) in (
      port_within e.context e.machine e.memory e.turns e.tallies e.left c.self.invariant c.args.port here,
      box_at e.context e.machine e.memory e.turns e.tallies e.left c.self.invariant c.args.port here,
    )

pub overflow_add-self : goal.overflow_add-self
overflow_add-self g c =
    let e = c.self.inside in
    let (lt, (packets, box)) = its_list g (goal.at.overflow_add-self g c).After-drain_list in
    let few = sent_fits e.context e.machine e.memory e.turns e.tallies e.left c.self.invariant c.args.port c.in-Ok.sent packets lt box
    (c.in-Ok.ensures.most packets box) in
    rw c.from-in-Ok.ensures (omega (arith, c.from.ensures, few))

pub overflow_add-self-in-Err : goal.overflow_add-self-in-Err
overflow_add-self-in-Err g c =
    let e = c.self.inside in
    let (lt, (packets, box)) = its_list g (goal.at.overflow_add-self-in-Err g c).After-drain_list in
    let few = sent_fits e.context e.machine e.memory e.turns e.tallies e.left c.self.invariant c.args.port c.in-Err.sent packets lt box
    (c.in-Err.ensures.most packets box) in
    rw c.from-in-Err-2.ensures (omega (arith, c.from-in-Err.ensures, few))

pub invariant_of-self : goal.invariant_of-self
invariant_of-self g c =
    let e = c.self.inside in
    let (lt, (packets, box)) = its_list g (goal.at.invariant_of-self g c).After-drain_list in
    rw (c.drain_list.ensures.empty, c.from.ensures, c.from-in-Ok.ensures) (sent_kept e.context e.machine e.memory e.turns e.tallies e.left c.self.invariant
    c.args.port c.in-Ok.sent packets lt box (c.in-Ok.ensures.most packets box))

pub invariant_of-self-in-Err : goal.invariant_of-self-in-Err
invariant_of-self-in-Err g c =
    let e = c.self.inside in
    let (lt, (packets, box)) = its_list g (goal.at.invariant_of-self-in-Err g c).After-drain_list in
    rw (c.drain_list.ensures.empty, c.from-in-Err.ensures, c.from-in-Err-2.ensures) (sent_kept e.context e.machine e.memory e.turns e.tallies e.left
    c.self.invariant c.args.port c.in-Err.sent packets lt box (c.in-Err.ensures.most packets box))

pub returns-then-count-eq0-clause-ok : goal.returns-then-count-eq0-clause-ok
returns-then-count-eq0-clause-ok g c =
    let e = c.self.inside in
    let none = none_at e.context e.machine e.memory e.turns e.tallies e.left c.args.self.now c.args.port c.count.result c.self.view_is c.count.ensures.list
    c.if-count-eq0.true in
    all_written c.args.unit c.args.time c.args.port c.args.self.now.world _ _ 0 0 [] none refl (omega arith) (omega arith)
    (Appends-nil (g.W.Sink.contents c.args.w.now))

pub returns-then-count-eq0-clause-empty : goal.returns-then-count-eq0-clause-empty
returns-then-count-eq0-clause-empty g c =
    let e = c.self.inside in
    drained_none c.args.port c.args.self.now (none_at e.context e.machine e.memory e.turns e.tallies e.left c.args.self.now c.args.port c.count.result
    c.self.view_is c.count.ensures.list c.if-count-eq0.true)

pub returns-then-count-eq0-clause-counted : goal.returns-then-count-eq0-clause-counted
returns-then-count-eq0-clause-counted g c =
    let e = c.self.inside in
    let none = none_at e.context e.machine e.memory e.turns e.tallies e.left c.args.self.now c.args.port c.count.result c.self.view_is c.count.ensures.list
    c.if-count-eq0.true in
    called_written c.args.unit c.args.time c.args.port c.args.self.now.world [] _ _ 1 none (omega arith)
