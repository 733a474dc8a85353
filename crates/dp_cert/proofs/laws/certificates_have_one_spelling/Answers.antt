-- The spelling determines the rows.
use Rattle.dp_cert.proofs.Again.{one_spelling}
use Rattle.dp_cert.proofs.laws.certificates_have_one_spelling.Goals as goal

pub returns : goal.returns
returns c = one_spelling
