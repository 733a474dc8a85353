-- The certificate that is found says most, and where it is refused, all are.
use Rattle.std.proofs.Common.{ap, sym, subst, ◌∙◌, List, IfOk, IfErr}
use Rattle.dp_model.specs.declared.instr.Instr.{Instr}
use Rattle.dp_model.specs.Rules.{Question}
use Rattle.dp_cert.specs.Spelling.{Certificate}
use Rattle.dp_infer.specs.Inference.{HasNone}
use Rattle.dp_infer.specs.Widening.{IsNotEnough, AreLast, IsOfLast}
use Rattle.dp_infer.proofs.Infers.{most_of, none_refused, most_checked, without_back, not_enough, enough}
use Rattle.dp_infer.proofs.inferring.inferred_checked.Goals as goal

pub widened_checked-requires : goal.widened_checked-requires
widened_checked-requires c =
    record {
      none = subst (λ (p : List Instr). HasNone p c.args.env.now c.args.entry) (sym c.in-Err.ensures.program_back)
          (none_refused c.args.program c.args.env.now c.args.entry c.in_ok-cert.cert _ _ c.in_ok-cert.ensures.some c.in_ok-cert.ensures.found
          c.in-Err.ensures.refused);
      more = subst (λ (p : List Instr). IsNotEnough p c.args.env.now c.args.entry) (sym c.in-Err.ensures.program_back)
          (not_enough c.args.program c.args.env.now c.args.entry c.in_ok-cert.cert _ _ c.in_ok-cert.ensures.found c.in-Err.ensures.refused);
    }

pub returns-in-Err-clause-none : goal.returns-in-Err-clause-none
returns-in-Err-clause-none c =
    without_back c.args.program c.in-Err.refused.program c.args.env.now c.args.entry c.widened_checked.result c.in-Err.ensures.program_back
    c.widened_checked.ensures.none

pub returns-in-Err-clause-most : goal.returns-in-Err-clause-most
returns-in-Err-clause-most c =
    most_checked c.args.program c.args.env.now c.args.entry c.widened_checked.result
    (none_refused c.args.program c.args.env.now c.args.entry c.in_ok-cert.cert _ _ c.in_ok-cert.ensures.some c.in_ok-cert.ensures.found
    c.in-Err.ensures.refused)

pub returns-in-Ok-clause-most : goal.returns-in-Ok-clause-most
returns-in-Ok-clause-most c =
    most_of c.args.program c.args.env.now c.args.entry c.in-Ok.checked.rows c.in_ok-cert.ensures.some
    (ap (λ (q : Question). q.rows) c.in-Ok.ensures.same ∙ ap (λ (cert : Certificate). cert.rows) c.in_ok-cert.ensures.found)

pub returns-in-Err-clause-last : goal.returns-in-Err-clause-last
returns-in-Err-clause-last c =
    subst (λ (p : List Instr). IfOk c.widened_checked.result (λ q. AreLast p c.args.env.now c.args.entry q.rows)) c.in-Err.ensures.program_back
    c.widened_checked.ensures.last

pub returns-in-Err-clause-of_last : goal.returns-in-Err-clause-of_last
returns-in-Err-clause-of_last c =
    subst (λ (p : List Instr). IfErr c.widened_checked.result (λ e. IsOfLast p c.args.env.now c.args.entry e)) c.in-Err.ensures.program_back
    c.widened_checked.ensures.of_last

pub returns-in-Ok-clause-last : goal.returns-in-Ok-clause-last
returns-in-Ok-clause-last c =
    enough c.args.program c.args.env.now c.args.entry c.in_ok-cert.cert c.in-Ok.checked c.in_ok-cert.ensures.found c.in-Ok.ensures.same
    c.in-Ok.ensures.accepted.accepted
