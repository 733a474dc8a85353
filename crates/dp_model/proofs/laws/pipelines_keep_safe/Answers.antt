-- Each part is a lemma.
use Rattle.dp_model.proofs.SafeTurns.{arrives_rest, waiting_safe, turn_runs_safe}
use Rattle.dp_model.proofs.SafeRuns.{leads_within}
use Rattle.dp_model.proofs.laws.pipelines_keep_safe.Goals as goal

pub returns : goal.returns
returns c = λ s nodes pipeline. record {
  turn_runs = λ port bytes w b. turn_runs_safe s nodes port bytes w b pipeline;
  waiting = λ next program w. waiting_safe s nodes next program w pipeline;
  leads = leads_within s;
  arrives = λ program port spec bytes w w' outcome answers. arrives_rest s nodes program port spec bytes w w' outcome answers pipeline;
}
