-- The law is a lemma.
use Rattle.dp_counts.proofs.Runs.{counts_steps}
use Rattle.dp_counts.proofs.laws.counts_are_of_steps.Goals as goal

pub returns : goal.returns
returns c = counts_steps
