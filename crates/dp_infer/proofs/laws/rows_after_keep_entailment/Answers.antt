-- A law.
use Rattle.dp_infer.proofs.LawAnswers.{rows_after}
use Rattle.dp_infer.proofs.laws.rows_after_keep_entailment.Goals as goal

pub returns : goal.returns
returns c = rows_after
