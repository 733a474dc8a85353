-- A table with one route fewer is a table of routes, and no hop is too great.
use Rattle.dp_lpm.specs.Kept.{routes_in}
use Rattle.dp_lpm.proofs.Looking.{is_table, low_hops}
use Rattle.dp_lpm.proofs.lpm.Lpm.delete.Goals as goal

pub returns-clause-table : goal.returns-clause-table
returns-clause-table c = is_table c.delete.new.self c.delete.ensures.kept

pub returns-clause-hops : goal.returns-clause-hops
returns-clause-hops c = low_hops (routes_in c.delete.new.self) c.delete.ensures.kept.rules.each
