-- Goals that the search alone does not find.
use Rattle.std.proofs.Common.{arith}
use Rattle.std.proofs.lemmas.Grind.{common_steps}
use Rattle.dp_lpm.proofs.table.filled.Goals as goal

pub push_reserved-requires : goal.push_reserved-requires
push_reserved-requires c = grind (arith, common_steps)

pub loop-preserved : goal.loop-preserved
loop-preserved c = grind (arith, common_steps)

pub returns-clause-items : goal.returns-clause-items
returns-clause-items c = grind (arith, common_steps)
