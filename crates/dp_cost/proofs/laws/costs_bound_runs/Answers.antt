-- The limit of all programs is a law of the machine.
use Rattle.dp_cost.proofs.Bounds.{node_cost, turn_costs}
use Rattle.dp_cost.proofs.laws.costs_bound_runs.Goals as goal

pub returns-clause-node_runs : goal.returns-clause-node_runs
returns-clause-node_runs c setting program cost packet number w w' answers =
    node_cost c.budgets_are_as_they_read.ensures.node_runs setting program cost.steps cost.back packet number w w' answers

pub returns-clause-turns : goal.returns-clause-turns
returns-clause-turns c setting nodes port bytes w w' outcome runs answers cost costs =
    turn_costs c.budgets_are_as_they_read.ensures.node_runs setting nodes port bytes w w' outcome runs answers cost costs
