-- Where the last certificate fails, all do.
use Rattle.dp_infer.specs.Inference.{Certifies, HasNone}
use Rattle.dp_infer.proofs.Infers.{one_or_other}
use Rattle.dp_infer.proofs.inferring.last_cert.Goals as goal

pub returns-clause-best : goal.returns-clause-best
returns-clause-best c =
    let tried = c.in_ok-cert.field-0 in
    one_or_other tried.fault (Certifies c.args.program.now c.args.env.now c.args.entry tried.cert.rows)
    (HasNone c.args.program.now c.args.env.now c.args.entry) c.in_ok-cert.ensures.accepted c.in_ok-cert.ensures.none
