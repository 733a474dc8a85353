-- Each clause is a lemma.
use Rattle.dp_model.proofs.BudgetLaws.{acts_lead, jumps_taken, node_took, turn_took, turn_short}
use Rattle.dp_model.specs.Laws.Steps.{freed_in_order}
use Rattle.dp_model.proofs.definition_laws.budgets_are_as_they_read.Goals as goal

pub returns : goal.returns
returns c = record { jumps = acts_lead; order = freed_in_order; taken = jumps_taken; node_runs = node_took; turns = turn_took; longest = turn_short }
