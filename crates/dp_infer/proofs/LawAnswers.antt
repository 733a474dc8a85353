-- The laws in terms of the tests.
use Rattle.std.proofs.Common.{ℕ, List, [], ◌∷◌, length, refl}
use Rattle.std.specs.Prelude.{IsTrue, nat_lt}
use Rattle.std.specs.List.{AllZip, list_all}
use Rattle.std.proofs.lemmas.Bool.{and_parts}
use Rattle.dp_model.specs.declared.row.Row.{Row}
use Rattle.dp_model.specs.declared.row.Lead.{Lead}
use Rattle.dp_model.specs.declared.instr.Instr.{Instr}
use Rattle.dp_model.specs.declared.rule.Rule.{Rule}
use Rattle.dp_model.specs.declared.rule.Rule.TheVariants.{J1, J2, J3, J4, J5, J6, J7, J8, J9, J10, J11}
use Rattle.dp_model.specs.Environments.{Environment}
use Rattle.dp_model.specs.Rows.{entails, leads, is_well_formed_row}
use Rattle.dp_model.specs.Rules.{Question, targets_fit, holds_at, indices_exist, uses}
use Rattle.dp_infer.specs.Laws.{LeadsEntail, HaveLeastRow}
use Rattle.dp_infer.proofs.Stronger.{stronger, row_test, both_are}
use Rattle.dp_infer.proofs.RowsAfter.{StrongerLead, leads_keep, targets_keep, bytes_keep, share_keeps, segments_keep, leave_keeps, end_keeps, labels_keep}
use Rattle.dp_infer.proofs.PacketTests.{all_held_keeps}
use Rattle.dp_infer.proofs.JoinLaws.{rows_join}
use Rattle.dp_infer.proofs.RowLists.{fits_from}
use Rattle.dp_infer.proofs.Spread.{entailed_keeps}

pub least_row : (a b upper : Row) → IsTrue (is_well_formed_row upper) → IsTrue (entails a upper) → IsTrue (entails b upper) → HaveLeastRow a b upper
least_row a b upper fits h k =
    let j = rows_join a b upper (stronger a upper h) (stronger b upper k) (fits_from upper fits) in
    record { left = row_test a _ j.left; right = row_test b _ j.right; least = row_test _ upper j.least }

leads_tests : (xs ys : List Lead) → AllZip StrongerLead xs ys → LeadsEntail xs ys
leads_tests [] [] z = tt
leads_tests (x ∷ xs) (y ∷ ys) ((same, more), rest) = ((same, row_test x.row y.row more), leads_tests xs ys rest)
leads_tests x y z = absurd z

pub rows_after : (env : Environment) (label : ℕ) (i : Instr) (a b : Row) → IsTrue (is_well_formed_row a) → IsTrue (is_well_formed_row b) →
    IsTrue (entails a b) → IsTrue (targets_fit b i) → LeadsEntail (leads env label a i) (leads env label b i)
rows_after env label i a b fits fits' e target = leads_tests (leads env label a i) (leads env label b i)
    (leads_keep env label a b i (stronger a b e) (fits_from a fits) (fits_from b fits') target)

pub rules_hold : (q : Question) (label : ℕ) (i : Instr) (a b : Row) (rule : Rule) → IsTrue (is_well_formed_row a) → IsTrue (is_well_formed_row b) →
    IsTrue (entails a b) → IsTrue (targets_fit b i) → IsTrue (holds_at q label i b rule) → IsTrue (holds_at q label i a rule)
rules_hold q label i a b J1 fits fits' e target h = refl
rules_hold q label i a b J2 fits fits' e target h = refl
rules_hold q label i a b J3 fits fits' e target h =
    let (places, within) = and_parts (indices_exist q.env i) (list_all (λ to. nat_lt to.to (length q.program)) (leads q.env label b i)) h in
    both_are places (labels_keep (λ to. nat_lt to (length q.program)) (leads q.env label a i) (leads q.env label b i)
    (leads_keep q.env label a b i (stronger a b e) (fits_from a fits) (fits_from b fits') target) within)
rules_hold q label i a b J4 fits fits' e target h = all_held_keeps a b (uses i) (stronger a b e) h
rules_hold q label i a b J5 fits fits' e target h = targets_keep a b i (stronger a b e) h
rules_hold q label i a b J6 fits fits' e target h = bytes_keep a b i (stronger a b e) (fits_from a fits) h
rules_hold q label i a b J7 fits fits' e target h = share_keeps a b i (stronger a b e) (fits_from a fits) h
rules_hold q label i a b J8 fits fits' e target h = segments_keep a b i (stronger a b e) (fits_from a fits) h
rules_hold q label i a b J9 fits fits' e target h = leave_keeps q.env a b i (stronger a b e) h
rules_hold q label i a b J10 fits fits' e target h = end_keeps a b i (stronger a b e) h
rules_hold q label i a b J11 fits fits' e target h = entailed_keeps q.rows (leads q.env label a i) (leads q.env label b i)
    (leads_keep q.env label a b i (stronger a b e) (fits_from a fits) (fits_from b fits') target) h
