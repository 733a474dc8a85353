-- The rest of the program completes the pass.
use Rattle.std.proofs.Common.{◌≡◌, IsTrue, drop}
use Rattle.std.specs.List.{list_all}
use Rattle.dp_model.specs.Rows.{is_well_formed_row}
use Rattle.dp_infer.specs.Joins as spec
use Rattle.dp_infer.proofs.inferring.spread.Given as goal

abbrev pub invariant-loop-label : goal.invariant-loop-label
invariant-loop-label l = record {
  found : spec.spread l.env (drop l.label l.program) l.label l.rows ≡ spec.spread l.env l.program 0 l.fn.rows;
  well_formed : IsTrue (list_all is_well_formed_row l.rows);
}
