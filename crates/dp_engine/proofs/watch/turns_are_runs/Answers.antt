-- The law is a lemma.
use Rattle.dp_engine.proofs.Following.{turns_follow}
use Rattle.dp_engine.proofs.watch.turns_are_runs.Goals as goal

pub returns : goal.returns
returns c = turns_follow
