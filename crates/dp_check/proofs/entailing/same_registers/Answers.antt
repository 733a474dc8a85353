-- Goals that the search alone does not find.
use Rattle.std.proofs.Common.{arith}
use Rattle.std.proofs.lemmas.Grind.{common_steps}
use Rattle.dp_model.specs.Laws.Lists.{each_index_drop}
use Rattle.dp_check.proofs.entailing.same_registers.Goals as goal

pub loop-i-init : goal.loop-i-init
loop-i-init c = grind (arith, common_steps, each_index_drop)

pub is_in-requires : goal.is_in-requires
is_in-requires c = grind (arith, common_steps, each_index_drop)

pub is_in-requires-in-loop-i : goal.is_in-requires-in-loop-i
is_in-requires-in-loop-i c = grind (arith, common_steps, each_index_drop)

pub returns-then-is_in : goal.returns-then-is_in
returns-then-is_in c = grind (arith, common_steps, each_index_drop)

pub loop-i-preserved : goal.loop-i-preserved
loop-i-preserved c = grind (arith, common_steps, each_index_drop)

pub returns : goal.returns
returns c = grind (arith, common_steps, each_index_drop)
