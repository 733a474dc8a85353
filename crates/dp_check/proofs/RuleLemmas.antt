-- The rules at all labels.
use Rattle.std.proofs.Common.{◌≡◌, ℕ, zero, suc, ◌≤◌, ◌<◌, true, false, List, [], ◌∷◌, length, Some, None, refl, ◌∙◌, ◌+◌, inl, inr, arith}
use Rattle.std.specs.Prelude.{slice_get, IsTrue}
use Rattle.std.specs.List.{list_all}
use Rattle.std.proofs.lemmas.Bool.{and_parts, eq-eqb, cases_lt}
use borrow.Author.Count.{below_more}
use Rattle.std.proofs.lemmas.Option.{slice_get_past}
use Rattle.dp_model.specs.declared.row.Row.{Row}
use Rattle.dp_model.specs.Rows.{is_well_formed_row}
use Rattle.dp_model.specs.Rules.{Question, holds, fault_at, IsAccepted}
use Rattle.dp_model.specs.declared.rule.Rule.TheVariants.{J1, J2}
use Rattle.dp_check.specs.Faults.{later_fault}

-- a row of well-formed rows is well formed
pub well_formed_at : (rows : List Row) (k : ℕ) (row : Row) → IsTrue (list_all is_well_formed_row rows) → slice_get rows k ≡ Some row →
    IsTrue (is_well_formed_row row)
well_formed_at (r ∷ rows) zero row h e = let here = (and_parts (is_well_formed_row r) (list_all is_well_formed_row rows) h).0 in cc
well_formed_at (r ∷ rows) (suc k) row h e = well_formed_at rows k row (and_parts (is_well_formed_row r) (list_all is_well_formed_row rows) h).1 e
well_formed_at [] k row h e = cc

-- after J1 and J2 the rules of each label are the later ones
pub later_is : (q : Question) (label : ℕ) → holds q 0 J1 ≡ true → holds q 0 J2 ≡ true → fault_at q label ≡ later_fault q label
later_is q zero one two = rw (one, two)
later_is q (suc label) one two = refl

-- no rule fails where there is no instruction
pub later_past : (q : Question) (label : ℕ) → length q.program ≤ label → later_fault q label ≡ None
later_past q label past = rw (slice_get_past q.program label past)

-- one more label without a fault
pub one_more : (q : Question) (n : ℕ) → length q.rows ≡ length q.program → holds q 0 J2 ≡ true → ((k : ℕ) → k < n → fault_at q k ≡ None) →
    later_fault q n ≡ None → (k : ℕ) → k < n + 1 → fault_at q k ≡ None
one_more q n same begins below here =
    let now : fault_at q n ≡ None = later_is q n (eq-eqb (length q.rows) (length q.program) same) begins ∙ here in
    below_more (λ k. fault_at q k ≡ None) n below now

-- no label has a fault, since none past the end has
pub none_left : (q : Question) (n : ℕ) → length q.rows ≡ length q.program → holds q 0 J2 ≡ true → ((k : ℕ) → k < n → fault_at q k ≡ None) →
    length q.program ≤ n → IsAccepted q
none_left q n same begins below end label =
    elim (cases_lt label n) [
      | inl before ↦ below label before
      | inr past ↦ later_is q label (eq-eqb (length q.rows) (length q.program) same) begins ∙ later_past q label (omega arith)
    ]

-- the entry's row is at fault first
pub second_fails : (q : Question) → holds q 0 J1 ≡ true → holds q 0 J2 ≡ false → fault_at q 0 ≡ Some J2
second_fails q one two = rw (one, two)
