-- Each clause is a lemma.
use Rattle.dp_model.specs.Laws.StepsWithin.{step_within}
use Rattle.dp_model.proofs.OwnedSteps.{step_owned}
use Rattle.dp_model.proofs.PacketSteps.{step_packets}
use Rattle.dp_model.proofs.SafeWhole.{drained_rest}
use Rattle.dp_model.specs.Laws.Runs.{start_rest}
use Rattle.dp_model.proofs.Few.{refs_small}
use Rattle.dp_model.proofs.definition_laws.worlds_stay_well_formed.Goals as goal

pub returns : goal.returns
returns c = record {
  steps = λ c program label s m well st. record {
    within = step_within c program label s m well.within st;
    owned = step_owned c program label s m well.owned st;
  };
  packets = step_packets;
  drains = drained_rest;
  starts = start_rest;
  few = refs_small;
}
