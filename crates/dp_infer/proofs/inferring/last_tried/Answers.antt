-- The certificate that is found says most, and where it fails, all do.
use Rattle.std.proofs.Common.{ap}
use Rattle.dp_cert.specs.Spelling.{Certificate}
use Rattle.dp_infer.proofs.Infers.{most_of, none_of, most_anyway, if_any}
use Rattle.dp_infer.proofs.inferring.last_tried.Goals as goal

pub returns-in-None-clause-most : goal.returns-in-None-clause-most
returns-in-None-clause-most c =
    most_of c.args.program.now c.args.env.now c.args.entry c.in_ok-cert.cert.rows c.in_ok-cert.ensures.some
    (ap (λ (cert : Certificate). cert.rows) c.in_ok-cert.ensures.found)

pub returns-in_ok-widened_to_end-in-Some-clause-most : goal.returns-in_ok-widened_to_end-in-Some-clause-most
returns-in_ok-widened_to_end-in-Some-clause-most c =
    most_anyway c.args.program.now c.args.env.now c.args.entry c.in_ok-widened_to_end-in-Some.widened_to_end.rows
    (none_of c.args.program.now c.args.env.now c.args.entry c.in_ok-cert.cert _ _ c.in_ok-cert.ensures.some c.in_ok-cert.ensures.found c.in-Some.ensures.some)

pub returns-in_ok-widened_to_end-in-Some-clause-none : goal.returns-in_ok-widened_to_end-in-Some-clause-none
returns-in_ok-widened_to_end-in-Some-clause-none c =
    if_any c.fault_of-fault.result
    (none_of c.args.program.now c.args.env.now c.args.entry c.in_ok-cert.cert _ _ c.in_ok-cert.ensures.some c.in_ok-cert.ensures.found c.in-Some.ensures.some)
