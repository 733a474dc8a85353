use Rattle.std.proofs.Common.{length, ◌∙◌, ap, arith}
use Rattle.dp_model.specs.Environments.{Environment}
use Rattle.dp_host.proofs.Serving.{few}
use Rattle.dp_host.proofs.host.counts_of.Goals as goal

pub returns-clause-ports : goal.returns-clause-ports
returns-clause-ports c =
    let same = ap length (c.ports.ensures ∙ ap (λ (e : Environment). e.ports) c.env-env.ensures.same) in
    (same, omega (arith, same, (few c.args.pipeline.now c.env-env.ensures.plan).0))

pub returns-clause-rings : goal.returns-clause-rings
returns-clause-rings c =
    let same = ap length (c.rings.ensures ∙ ap (λ (e : Environment). e.rings) c.env-env.ensures.same) in
    (same, omega (arith, same, (few c.args.pipeline.now c.env-env.ensures.plan).1))
