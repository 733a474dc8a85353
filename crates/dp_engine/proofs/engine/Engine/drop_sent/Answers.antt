use Rattle.std.proofs.Common.{length, ap, arith}
use Rattle.dp_engine.specs.Engines.{EngineState}
use Rattle.dp_engine.proofs.Emptied.{dropped_kept, drops}
use Rattle.dp_engine.proofs.engine.Engine.drop_sent.Goals as goal

pub invariant_of-self : goal.invariant_of-self
invariant_of-self g c =
    let e = c.self.inside in
    let long = ap (λ (x : EngineState). length x.setting.env.ports) c.self.view_is in
    rw c.clear.ensures (dropped_kept e.context e.machine e.memory e.turns e.tallies e.left c.self.invariant c.args.port (omega (arith, c.requires, long)))

pub returns : goal.returns
returns g c =
    let e = c.self.inside in
    drops e.context e.machine c.clear.new.self e.memory e.turns e.tallies e.left c.args.self.now c.args.port c.self.view_is c.clear.ensures
