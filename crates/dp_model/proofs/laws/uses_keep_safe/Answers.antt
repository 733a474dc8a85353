-- Each clause is a lemma.
use Rattle.dp_model.proofs.UsesSafe.{use_keeps, use_ends, use_counts}
use Rattle.dp_model.proofs.laws.uses_keep_safe.Goals as goal

pub returns : goal.returns
returns g c = record { safe = use_keeps; nothing = use_ends; calls = use_counts }
