-- The law is a lemma.
use Rattle.dp_copies.proofs.Determinism.{captures_once}
use Rattle.dp_copies.proofs.laws.copies_are_deterministic.Goals as goal

pub returns : goal.returns
returns g c = captures_once
