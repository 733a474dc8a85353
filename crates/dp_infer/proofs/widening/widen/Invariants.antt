-- The remaining passes complete the result. The number of rows stays, and so does their form.
use Rattle.std.proofs.Common.{◌≡◌, ◌-◌, length, IsTrue}
use Rattle.std.specs.List.{list_all}
use Rattle.dp_model.specs.Rows.{is_well_formed_row}
use Rattle.dp_infer.specs.Widening.{widened_from, widened_to_end, max_passes}
use Rattle.dp_infer.proofs.widening.widen.Given as goal

abbrev pub invariant-loop-pass : goal.invariant-loop-pass
invariant-loop-pass l = record {
  left : widened_from l.program l.env (max_passes - l.pass) l.pass l.rows ≡ widened_to_end l.program l.env l.fn.rows;
  long : length l.rows ≡ length l.fn.rows;
  well_formed : IsTrue (list_all is_well_formed_row l.rows);
}
