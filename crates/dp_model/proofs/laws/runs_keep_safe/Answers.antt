-- A lemma, from the start on.
use Rattle.dp_model.specs.Laws.Runs.{start_rest}
use Rattle.dp_model.proofs.SafeWhole.{run_keeps}
use Rattle.dp_model.proofs.laws.runs_keep_safe.Goals as goal

pub returns : goal.returns
returns g c = λ s nodes arrivals w tables pipeline start. run_keeps s nodes arrivals w pipeline (start_rest s w tables start)
