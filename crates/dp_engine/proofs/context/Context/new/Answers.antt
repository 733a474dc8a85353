-- A new context: that it is one is derived once.
use Rattle.std.proofs.Common.{[], length, ◌∙◌, ap}
use Rattle.dp_model.specs.Laws.Lists.{each_at}
use Rattle.dp_lpm.specs.Routes.{HasSmallHops}
use Rattle.dp_check.specs.Faults.{IsChecked}
use Rattle.dp_engine.specs.Laws.{plan_of}
use Rattle.dp_engine.proofs.context.Context.new.Goals as goal

pub invariant_of-result : goal.invariant_of-result
invariant_of-result g c =
    let parts = c.parted-ports.ensures in
    rw (c.copy-env.ensures.same, parts.ports, parts.rings, c.new-pattern.ensures.items, c.ports.ensures, c.copy-env.ensures.same)
    (plan_of c.args.env.now c.of.result c.args.nodes.items [] c.copy-env.ensures.fits c.requires.nodes (ap length c.of.ensures.same ∙ c.requires.tables)
    (λ k q at. each_at IsChecked c.args.nodes.items k q parts.checked at)
    (λ k t at. each_at HasSmallHops c.of.result k t c.of.ensures.hops at))

pub returns-clause-pipeline : goal.returns-clause-pipeline
returns-clause-pipeline g c = (invariant_of-result g c).pipeline

pub returns-clause-tables : goal.returns-clause-tables
returns-clause-tables g c = (invariant_of-result g c).tables_fit
