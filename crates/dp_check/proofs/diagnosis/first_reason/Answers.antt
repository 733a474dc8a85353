-- Label by label.
use Rattle.std.proofs.Common.{arith}
use Rattle.std.proofs.lemmas.Grind.{common_steps}
use Rattle.dp_check.specs.Faults.{question}
use Rattle.dp_check.proofs.RuleLemmas.{one_more, none_left}
use Rattle.dp_check.proofs.Diagnosed.{begins_badly}
use Rattle.dp_check.proofs.diagnosis.first_reason.Goals as goal

pub loop-label-preserved : goal.loop-label-preserved
loop-label-preserved c = λ version.
    one_more (question c.args.program.now (record { version = version; rows = c.args.rows.now }) c.args.env.now c.args.entry) c.loop-label.label
    (omega arith) (c.in_default.ensures.none version) (c.loop-label.invariant version) (cc (c.in_default-reason_at.ensures.rule version c.args.entry))

pub returns-clause-accepted : goal.returns-clause-accepted
returns-clause-accepted c = λ version.
    none_left (question c.args.program.now (record { version = version; rows = c.args.rows.now }) c.args.env.now c.args.entry) c.loop-label.label
    (omega arith) (c.in_default.ensures.none version) (c.loop-label.invariant version) (omega arith)

pub returns-in-Some-clause-refused : goal.returns-in-Some-clause-refused
returns-in-Some-clause-refused c = λ version.
    begins_badly (question c.args.program.now (record { version = version; rows = c.args.rows.now }) c.args.env.now c.args.entry) c.in-Some.reason
    (omega arith) (c.in-Some.ensures.fails version) c.in-Some.ensures.rule (c.in-Some.ensures.says version)

pub returns-in-Some-reason_at-clause-refused : goal.returns-in-Some-reason_at-clause-refused
returns-in-Some-reason_at-clause-refused c = grind (arith, common_steps)
