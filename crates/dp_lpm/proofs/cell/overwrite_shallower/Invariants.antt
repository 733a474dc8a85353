-- Entries below k are overwritten, and the others stay.
use Rattle.dp_lpm.specs.Cells.{entry_in, overwritten}
use Rattle.dp_lpm.proofs.Overwriting.{ChangedUpTo}
use Rattle.dp_lpm.proofs.cell.overwrite_shallower.Given as goal

abbrev pub invariant-loop-k : goal.invariant-loop-k
invariant-loop-k l = ChangedUpTo l.fn.from l.k (overwritten l.fn.depth (entry_in l.fn.to)) l.initial.cells l.cells
