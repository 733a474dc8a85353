-- A law.
use Rattle.dp_infer.proofs.LawAnswers.{least_row}
use Rattle.dp_infer.proofs.laws.rows_have_a_least_common_row.Goals as goal

pub returns : goal.returns
returns c = least_row
