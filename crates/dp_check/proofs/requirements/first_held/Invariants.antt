-- The rest of the list decides.
use Rattle.std.proofs.Common.{◌≡◌, not, drop}
use Rattle.std.specs.List.{list_all, position_from}
use Rattle.dp_model.specs.Rows.{is_empty}
use Rattle.dp_check.specs.Diagnoses.{first_held}
use Rattle.dp_check.proofs.requirements.first_held.Given as goal

abbrev pub invariant-loop-i : goal.invariant-loop-i
invariant-loop-i l = record {
  all : list_all is_empty l.facts ≡ list_all is_empty (drop l.i l.facts);
  first : first_held l.facts ≡ position_from (λ fact. not (is_empty fact)) l.i (drop l.i l.facts);
}
