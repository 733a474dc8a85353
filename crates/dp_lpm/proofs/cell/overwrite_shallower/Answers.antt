-- One entry more.
use Rattle.std.proofs.Common.{arith}
use Rattle.dp_lpm.specs.Cells.{entry_in}
use Rattle.dp_lpm.proofs.Overwriting.{overwrite_set, overwrite_keep}
use Rattle.dp_lpm.proofs.cell.overwrite_shallower.Goals.{then-depth, else-depth}
use Rattle.dp_lpm.proofs.cell.overwrite_shallower.Goals as goal

pub loop-k-preserved : goal.loop-k-preserved
loop-k-preserved c = elim c.if-depth.branch [
  | then-depth w ↦ rw w.cells-is (overwrite_set c.args.from c.loop-k.k c.args.depth c.args.to c.args.cells.now c.loop-k.cells c.loop-k.invariant
      (omega arith) (omega arith) (omega (arith, w.if-depth.true, c.depth.ensures)) c.requires.depth)
  | else-depth w ↦ rw w.cells-is (overwrite_keep c.args.from c.loop-k.k c.args.depth (entry_in c.args.to) c.args.cells.now c.loop-k.cells
      c.loop-k.invariant (omega (arith, w.if-depth.false, c.depth.ensures)) c.requires.depth)
]
