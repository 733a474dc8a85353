-- Goals that the search alone does not find.
use Rattle.std.proofs.Common.{arith}
use Rattle.std.proofs.lemmas.Grind.{common_steps}
use Rattle.dp_check.proofs.GapLemmas.{failing_drop}
use Rattle.dp_model.specs.Laws.Lists.{each_index_drop}
use Rattle.dp_check.proofs.difference.member_gap.Goals as goal

pub is_in-requires : goal.is_in-requires
is_in-requires c = grind (arith, common_steps, each_index_drop, failing_drop)

pub is_in-requires-in-loop-i : goal.is_in-requires-in-loop-i
is_in-requires-in-loop-i c = grind (arith, common_steps, each_index_drop, failing_drop)

pub returns-then-is_in-clause-first : goal.returns-then-is_in-clause-first
returns-then-is_in-clause-first c = grind (arith, common_steps, each_index_drop, failing_drop)

pub returns-then-is_in-clause-none : goal.returns-then-is_in-clause-none
returns-then-is_in-clause-none c = grind (arith, common_steps, each_index_drop, failing_drop)

pub returns-then-is_in-clause-differ : goal.returns-then-is_in-clause-differ
returns-then-is_in-clause-differ c = grind (arith, common_steps, each_index_drop, failing_drop)

pub loop-i-preserved : goal.loop-i-preserved
loop-i-preserved c = grind (arith, common_steps, each_index_drop, failing_drop)

pub returns-clause-first : goal.returns-clause-first
returns-clause-first c = grind (arith, common_steps, each_index_drop, failing_drop)

pub returns-clause-none : goal.returns-clause-none
returns-clause-none c = grind (arith, common_steps, each_index_drop, failing_drop)

pub returns-clause-differ : goal.returns-clause-differ
returns-clause-differ c = grind (arith, common_steps, each_index_drop, failing_drop)

pub returns-clause-some : goal.returns-clause-some
returns-clause-some c = grind (arith, common_steps, each_index_drop, failing_drop)
