-- The rest of the list decides.
use Rattle.std.proofs.Common.{◌≡◌, drop}
use Rattle.std.specs.Prelude.{nat_le}
use Rattle.dp_model.specs.Rows.{at_each_index}
use Rattle.dp_check.specs.Diagnoses.{first_greater, first_failing}
use Rattle.dp_check.proofs.difference.bound_gap.Given as goal

abbrev pub invariant-loop-i : goal.invariant-loop-i
invariant-loop-i l = record {
  all : at_each_index nat_le l.bounds l.others ≡ at_each_index nat_le (drop l.i l.bounds) (drop l.i l.others);
  first : first_greater l.bounds l.others ≡ first_failing nat_le l.i (drop l.i l.bounds) (drop l.i l.others);
}
