-- The rest of the list decides.
use Rattle.std.proofs.Common.{◌≡◌, drop}
use Rattle.std.proofs.Math.Bool.{beq}
use Rattle.dp_model.specs.Groups.{at_each_index, is_in}
use Rattle.dp_check.specs.Diagnoses.{first_outside, first_failing}
use Rattle.dp_check.proofs.difference.member_gap.Given as goal

abbrev pub invariant-loop-i : goal.invariant-loop-i
invariant-loop-i l = record {
  all : at_each_index (λ fact other. beq (is_in l.group fact) (is_in l.group other)) l.facts l.others
      ≡ at_each_index (λ fact other. beq (is_in l.group fact) (is_in l.group other)) (drop l.i l.facts) (drop l.i l.others);
  first : first_outside l.group l.facts l.others
      ≡ first_failing (λ fact other. beq (is_in l.group fact) (is_in l.group other)) l.i (drop l.i l.facts) (drop l.i l.others);
}
