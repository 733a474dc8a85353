-- The law is a lemma.
use Rattle.dp_copies.proofs.WholeUses.{use_copies}
use Rattle.dp_copies.proofs.laws.uses_are_copied.Goals as goal

pub returns : goal.returns
returns g c = use_copies
