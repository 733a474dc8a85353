-- No hop of tables that were kept is too great.
use Rattle.std.proofs.Common.{arith}
use Rattle.std.proofs.lemmas.Grind.{common_steps}
use Rattle.dp_lpm.proofs.Looking.{small_hops}
use Rattle.dp_lpm.proofs.tables.Tables.of.Goals as goal

pub returns-clause-hops : goal.returns-clause-hops
returns-clause-hops c = small_hops c.loop-table.ruled.items c.loop-table.invariant.kept

pub loop-table-preserved : goal.loop-table-preserved
loop-table-preserved c = grind (arith, common_steps)
