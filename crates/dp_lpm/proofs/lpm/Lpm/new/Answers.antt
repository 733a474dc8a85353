-- A new table is a table of routes.
use Rattle.dp_lpm.proofs.Looking.{is_table}
use Rattle.dp_lpm.proofs.lpm.Lpm.new.Goals as goal

pub returns-clause-table : goal.returns-clause-table
returns-clause-table c = is_table c.in_ok-new.field-0 c.in_ok-new.ensures.kept
