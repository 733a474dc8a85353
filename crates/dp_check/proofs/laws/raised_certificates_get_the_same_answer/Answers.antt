-- Each clause is a lemma.
use Rattle.dp_check.proofs.Versions.{raised_accepted, raised_refused}
use Rattle.dp_check.proofs.laws.raised_certificates_get_the_same_answer.Goals as goal

pub returns : goal.returns
returns c = record {
  accepted = raised_accepted;
  refused = raised_refused;
}
