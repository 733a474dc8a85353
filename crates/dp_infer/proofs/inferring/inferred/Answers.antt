-- The program is refused with the last rows.
use Rattle.std.proofs.Common.{sym, subst, ℕ}
use Rattle.dp_cert.specs.Spelling.{certificate_of}
use Rattle.dp_check.specs.Faults.{question, IsRefusedWith}
use Rattle.dp_model.specs.Rules.{number_of}
use Rattle.dp_infer.specs.Inference.{AreRefused}
use Rattle.dp_infer.proofs.inferring.inferred.Goals as goal

pub returns-in-Some-clause-of_last : goal.returns-in-Some-clause-of_last
returns-in-Some-clause-of_last c =
    let rows = c.in_ok-cert.field-0.cert.rows in
    let tried : AreRefused c.args.program.now c.args.env.now c.args.entry rows c.in-Some.fault.label (number_of c.in-Some.fault.rule) =
    rw c.in-Some.is at c.in_ok-cert.ensures.refused in
    let refused = subst (λ (n : ℕ). IsRefusedWith (question c.args.program.now (certificate_of rows) c.args.env.now c.args.entry) c.in-Some.fault.label n)
    (sym c.number.ensures) tried.refused in
    (rows, c.in_ok-cert.ensures.last, refused)
