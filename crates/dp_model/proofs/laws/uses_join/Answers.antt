-- Each clause is a lemma.
use Rattle.dp_model.proofs.UsesJoined.{use_join, use_is_run}
use Rattle.dp_model.proofs.laws.uses_join.Goals as goal

pub returns : goal.returns
returns g c = record { stretches = use_join; one = use_is_run }
