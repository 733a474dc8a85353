-- The law is a lemma.
use Rattle.dp_copies.proofs.Corollaries.{same_captures}
use Rattle.dp_copies.proofs.laws.buffers_are_not_seen.Goals as goal

pub returns : goal.returns
returns g c = same_captures
