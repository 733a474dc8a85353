-- Goals that the search alone does not find.
use Rattle.std.proofs.Common.{arith}
use Rattle.std.proofs.lemmas.Grind.{common_steps}
use Rattle.dp_infer.proofs.Passing.{stays_well_formed}
use Rattle.dp_infer.proofs.Passing.{not_passed}
use Rattle.dp_infer.proofs.inferring.pass_from.Goals as goal

pub from-requires : goal.from-requires
from-requires c = grind (arith, common_steps, not_passed, stays_well_formed)

pub leads_of-leads-requires-clause-well_formed : goal.leads_of-leads-requires-clause-well_formed
leads_of-leads-requires-clause-well_formed c = grind (arith, common_steps, not_passed, stays_well_formed)

pub pass_on-requires : goal.pass_on-requires
pass_on-requires c = grind (arith, common_steps, not_passed, stays_well_formed)

pub returns-else-row-clause-well_formed : goal.returns-else-row-clause-well_formed
returns-else-row-clause-well_formed c = grind (arith, common_steps, not_passed, stays_well_formed)
