-- `add_labels`: no piece is left.
use Rattle.std.proofs.Common.{[]}
use Rattle.dp_lang.proofs.Loops.{label_goes_on, label_fault_goes_on}
use Rattle.dp_lang.proofs.reader.add_labels.Goals as goal
use Rattle.dp_lang.proofs.reader.add_labels.Goals.{in-Err, in_default}

pub loop-piece-preserved : goal.loop-piece-preserved
loop-piece-preserved c =
    let before = c.loop-piece.labels in
    let name = c.trim_start-name.result.now in
    elim c.match-label_fault.branch [
      | in-Err w ↦
          rw (w.fault-is, w.or_less.ensures, c.in_ok-insert.ensures)
          (label_fault_goes_on c.args.number before c.args.pieces.now c.loop-piece.piece-index (record { ref_ptr = (0, 0); now = [] }) name c.loop-piece.fault
          w.in-Err.cause _
          c.loop-piece-test.true c.trim_start-name.ensures w.in-Err.ensures c.loop-piece.invariant)
      | in_default w ↦
          rw (w.fault-is, c.in_ok-insert.ensures)
          (label_goes_on c.args.number before c.args.pieces.now c.loop-piece.piece-index (record { ref_ptr = (0, 0); now = [] }) name c.loop-piece.fault
          w.in_default.field-0 _
          c.loop-piece-test.true c.trim_start-name.ensures w.in_default.ensures c.loop-piece.invariant)
    ]
