-- Goals that the search alone does not find.
use Rattle.std.proofs.Common.{arith}
use Rattle.std.proofs.lemmas.Grind.{common_steps}
use Rattle.std.proofs.lemmas.Option.{slice_get-get_or, slice_get_past}
use Rattle.dp_infer.proofs.RowLists.{all_set}
use Rattle.dp_infer.proofs.Widened.{again_past, again_there}
use Rattle.dp_infer.proofs.widening.reach_again.Goals as goal

pub from-to-requires : goal.from-to-requires
from-to-requires c = grind (arith, common_steps, all_set)

pub returns-then-to-rows-clause-reached : goal.returns-then-to-rows-clause-reached
returns-then-to-rows-clause-reached c =
    again_past c.args.program.now c.args.label c.args.slow c.args.lead.now c.args.rows.now
    (slice_get_past c.args.rows.now c.args.lead.now.to (omega (arith, c.from-to.ensures)))

pub returns-clause-reached : goal.returns-clause-reached
returns-clause-reached c =
    rw c.from-to.ensures (again_there c.args.program.now c.args.label c.args.slow c.args.lead.now c.args.rows.now _ c.known_after-row.result c.differ.result
    (slice_get-get_or c.args.rows.now c.args.lead.now.to _ (omega (arith, c.from-to.ensures))) (rw c.from-to.ensures at c.known_after-row.ensures.is)
    (rw c.from-to.ensures at c.differ.ensures))

pub returns-then-to-rows-clause-well_formed : goal.returns-then-to-rows-clause-well_formed
returns-then-to-rows-clause-well_formed c = grind (arith, common_steps, all_set)

pub returns-then-to-rows-clause-long : goal.returns-then-to-rows-clause-long
returns-then-to-rows-clause-long c = grind (arith, common_steps, all_set)

pub known_after-row-requires : goal.known_after-row-requires
known_after-row-requires c = grind (arith, common_steps, all_set)

pub differ-requires : goal.differ-requires
differ-requires c = grind (arith, common_steps, all_set)

pub returns-clause-long : goal.returns-clause-long
returns-clause-long c = grind (arith, common_steps, all_set)
