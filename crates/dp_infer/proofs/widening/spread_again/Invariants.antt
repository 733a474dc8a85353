-- The rest of the program completes the pass. The number of rows stays, and so does their form.
use Rattle.std.proofs.Common.{◌≡◌, length, drop, IsTrue}
use Rattle.std.specs.List.{list_all}
use Rattle.dp_model.specs.Rows.{is_well_formed_row}
use Rattle.dp_infer.specs.Widening.{spread_again, weakened_once}
use Rattle.dp_infer.proofs.Widened.{as_they_are}
use Rattle.dp_infer.proofs.widening.spread_again.Given as goal

abbrev pub invariant-loop-label : goal.invariant-loop-label
invariant-loop-label l = record {
  passed : spread_again l.program l.env l.slow (drop l.label l.program) l.label (as_they_are l.rows l.changed)
      ≡ weakened_once l.program l.env l.slow l.fn.rows;
  long : length l.rows ≡ length l.fn.rows;
  well_formed : IsTrue (list_all is_well_formed_row l.rows);
}
