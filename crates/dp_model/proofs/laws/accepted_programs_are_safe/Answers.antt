-- Each clause is a lemma.
use Rattle.dp_model.proofs.SafeRuns.{accepted_is_safe}
use Rattle.dp_model.proofs.SafeTurns.{turn_safe}
use Rattle.dp_model.proofs.SafeWhole.{run_safe}
use Rattle.dp_model.specs.Laws.Runs.{start_rest}
use Rattle.dp_model.proofs.CountTurns.{turn_calls}
use Rattle.dp_model.proofs.laws.accepted_programs_are_safe.Goals as goal

pub returns : goal.returns
returns g c = record {
  node_runs = accepted_is_safe;
  turns = turn_safe;
  calls = turn_calls;
  runs = λ c nodes arrivals w tables pipeline start can. run_safe c nodes arrivals w pipeline (start_rest c w tables start) can;
}
