-- The rest of the list decides.
use Rattle.std.proofs.Common.{◌≡◌, drop}
use Rattle.dp_model.specs.Rows.{at_each_index, entails_fact}
use Rattle.dp_check.specs.Diagnoses.{first_weaker, first_failing}
use Rattle.dp_check.proofs.difference.fact_gap.Given as goal

abbrev pub invariant-loop-i : goal.invariant-loop-i
invariant-loop-i l = record {
  all : at_each_index entails_fact l.facts l.others ≡ at_each_index entails_fact (drop l.i l.facts) (drop l.i l.others);
  first : first_weaker l.facts l.others ≡ first_failing entails_fact l.i (drop l.i l.facts) (drop l.i l.others);
}
