-- The first blocks are overwritten.
use Rattle.std.proofs.Common.{◌*◌}
use Rattle.dp_lpm.specs.Cells.{entry_in}
use Rattle.dp_lpm.specs.Tables.{Overwritten}
use Rattle.dp_lpm.proofs.table.Table.overwrite_shallower.Given as goal

abbrev pub invariant-loop-k : goal.invariant-loop-k
invariant-loop-k l = Overwritten l.start (l.k * 256) l.depth (entry_in l.to) l.initial.self l.self
