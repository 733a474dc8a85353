-- The law is a lemma.
use Rattle.dp_counts.proofs.Runs.{begins_at_zero}
use Rattle.dp_counts.proofs.laws.counts_begin_at_zero.Goals as goal

pub returns : goal.returns
returns c = begins_at_zero
