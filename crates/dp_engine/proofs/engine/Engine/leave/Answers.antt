use Rattle.std.proofs.Common.{length, ap, arith}
use Rattle.dp_engine.specs.Engines.{EngineState}
use Rattle.dp_engine.proofs.Emptied.{ring_within, left_kept, left_fits, leaves}
use Rattle.dp_engine.proofs.engine.Engine.leave.Goals as goal

pub overflow_add-self : goal.overflow_add-self
overflow_add-self g c =
    let e = c.self.inside in
    let (packets, there, count) = c.count.ensures.list in
    let few = left_fits e.context e.machine e.memory e.turns e.tallies e.left c.self.invariant c.args.ring packets there in
    rw c.from-2.ensures (omega (arith, c.from.ensures, count, few))

pub invariant_of-self : goal.invariant_of-self
invariant_of-self g c =
    let e = c.self.inside in
    let (packets, there, count) = c.count.ensures.list in
    let long = ap (λ (x : EngineState). length x.setting.env.rings) c.self.view_is in
    let lt = ring_within e.context e.machine e.memory e.turns e.tallies e.left c.self.invariant c.args.ring (omega (arith, c.requires, long)) in
    rw (c.clear.ensures, c.from.ensures, c.from-2.ensures, count)
    (left_kept e.context e.machine e.memory e.turns e.tallies e.left c.self.invariant c.args.ring packets lt there)

pub returns : goal.returns
returns g c =
    let e = c.self.inside in
    let (packets, there, count) = c.count.ensures.list in
    rw (c.from.ensures, c.from-2.ensures) (leaves e.context e.machine c.clear.new.self e.memory e.turns e.tallies e.left c.args.self.now c.args.ring
    c.count.result packets c.self.view_is c.clear.ensures there count)
