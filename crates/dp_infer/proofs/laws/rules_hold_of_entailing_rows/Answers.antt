-- A law.
use Rattle.dp_infer.proofs.LawAnswers.{rules_hold}
use Rattle.dp_infer.proofs.laws.rules_hold_of_entailing_rows.Goals as goal

pub returns : goal.returns
returns c = rules_hold
