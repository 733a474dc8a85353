-- A transmit list is emptied, and its packets are counted: the list is found once, and each goal is one step from there.
use Rattle.std.proofs.Common.{◌<◌, length, ap, arith}
use Rattle.dp_engine.specs.Engines.{EngineState}
use Rattle.dp_engine.proofs.Emptied.{port_within, sent_kept, sent_fits}
use Rattle.dp_engine.proofs.engine.Engine.count_sent.Goals as goal
use Rattle.dp_engine.proofs.engine.Engine.count_sent.Goals.{After-count}

-- the port is one of eight
small : (g : _) (c : After-count g) → c.args.port < 8
small g c =
    let e = c.self.inside in
    let long = ap (λ (x : EngineState). length x.setting.env.ports) c.self.view_is in
    port_within e.context e.machine e.memory e.turns e.tallies e.left c.self.invariant c.args.port (omega (arith, c.requires, long))

pub overflow_add-self : goal.overflow_add-self
overflow_add-self g c =
    let e = c.self.inside in
    let (packets, box, count) = c.count.ensures.list in
    let few = sent_fits e.context e.machine e.memory e.turns e.tallies e.left c.self.invariant c.args.port c.count.result packets
    (small g (goal.at.overflow_add-self g c).After-count) box (omega (arith, count)) in
    rw c.from-2.ensures (omega (arith, c.from.ensures, few))

pub invariant_of-self : goal.invariant_of-self
invariant_of-self g c =
    let e = c.self.inside in
    let (packets, box, count) = c.count.ensures.list in
    rw (c.clear.ensures, c.from-2.ensures, c.from.ensures) (sent_kept e.context e.machine e.memory e.turns e.tallies e.left c.self.invariant
    c.args.port c.count.result packets (small g (goal.at.invariant_of-self g c).After-count) box (omega (arith, count)))
