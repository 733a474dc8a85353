-- A step acts on the state with one more step counted, which has the same packets.
use Rattle.std.proofs.Common.{sym, subst}
use Rattle.dp_model.specs.Machine.{with_step}
use Rattle.dp_model.specs.Laws.Steps.{budget_keeps}
use Rattle.dp_copies.proofs.NotSeen.{Stays, beside_stays, queued_stays}
use Rattle.dp_copies.proofs.laws.writes_are_not_seen.Goals as goal

pub returns-clause-steps : goal.returns-clause-steps
returns-clause-steps c setting program label s m step k beside =
    let here = beside_stays setting label (with_step s) step.instr step.effect k step.acts beside in
    subst (Stays setting s k) (sym step.is) (budget_keeps (Stays setting s k) label step.effect here here here)

pub returns-clause-receives : goal.returns-clause-receives
returns-clause-receives c setting program port spec bytes w w' answers received k =
    queued_stays setting spec bytes w k received.reception
