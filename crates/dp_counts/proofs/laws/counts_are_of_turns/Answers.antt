-- The law is a lemma.
use Rattle.dp_counts.proofs.Runs.{turns_counted}
use Rattle.dp_counts.proofs.laws.counts_are_of_turns.Goals as goal

pub returns : goal.returns
returns c = turns_counted
