-- The law is a lemma.
use Rattle.dp_copies.proofs.Corollaries.{accepted_runs_copy}
use Rattle.dp_copies.proofs.laws.clones_are_copies.Goals as goal

pub returns : goal.returns
returns g c = accepted_runs_copy
