-- Each clause is a lemma.
use Rattle.dp_model.proofs.Agreement.{interleaved_port, serves_is, receives_again}
use Rattle.dp_model.proofs.definition_laws.runs_are_as_they_read.Goals as goal

pub returns : goal.returns
returns g c = record { rounds = interleaved_port; serves = serves_is; receives = receives_again }
