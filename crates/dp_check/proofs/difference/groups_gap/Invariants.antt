-- The rest of the registers decides.
use Rattle.std.proofs.Common.{◌≡◌, drop, not}
use Rattle.std.specs.List.{find, list_all}
use Rattle.dp_check.specs.Diagnoses.{is_kept}
use Rattle.dp_check.proofs.difference.groups_gap.Given as goal

abbrev pub invariant-loop-member : goal.invariant-loop-member
invariant-loop-member l = record {
  all : list_all (is_kept l.facts l.others) l.others ≡ list_all (is_kept l.facts l.others) (drop l.member l.others);
  first : find (λ other. not (is_kept l.facts l.others other)) l.others ≡ find (λ other. not (is_kept l.facts l.others other)) (drop l.member l.others);
}
