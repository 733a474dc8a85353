-- What acceptance means, rule by rule.
use Rattle.std.proofs.Common.{◌≡◌, ℕ, zero, suc, Bool, true, false, not, cond, List, [], ◌∷◌, Some, None, refl, length}
use Rattle.std.specs.Prelude.{nat_lt}
use Rattle.std.specs.List.{find, list_all, AllByRecursion}
use Rattle.std.proofs.lemmas.Bool.{and_parts}
use Rattle.dp_model.specs.declared.rule.Rule.{Rule}
use Rattle.dp_model.specs.declared.rule.Rule.TheVariants.{J1, J2}
use Rattle.dp_model.specs.declared.row.Row.{Row}
use Rattle.dp_model.specs.declared.instr.Instr.{Instr}
use Rattle.dp_model.specs.Rows.{entails, leads}
use Rattle.dp_model.specs.Rules.{Question, holds, holds_at, later_rules, IsAccepted, indices_exist, is_held, uses, targets_fit, bytes_fit, share_fits}
use Rattle.dp_model.specs.Rules.{segments_fit, may_leave, may_end, row_passes}
use Rattle.dp_infer.proofs.Stronger.{both_are}

found_holds : (b : Bool) (test : Rule → Bool) (rule : Rule) (rules : List Rule) → test rule ≡ b → cond (not b) (Some rule) (find (λ r. not (test r)) rules)
    ≡ None
    → (find (λ r. not (test r)) rules ≡ None → list_all test rules ≡ true) → list_all test (rule ∷ rules) ≡ true
found_holds true test rule rules is e more = both_are is (more e)
found_holds false test rule rules is e more = absurd cc

find_holds : (test : Rule → Bool) (rules : List Rule) → find (λ rule. not (test rule)) rules ≡ None → list_all test rules ≡ true
find_holds test [] e = refl
find_holds test (rule ∷ rules) e = found_holds (test rule) test rule rules refl e (find_holds test rules)

find_none : (test : Rule → Bool) (rules : List Rule) → list_all test rules ≡ true → find (λ rule. not (test rule)) rules ≡ None
find_none test [] e = refl
find_none test (rule ∷ rules) e =
    let (here, rest) = and_parts (test rule) (list_all test rules) e in
    rw here (find_none test rules rest)

-- an accepted question passes the second rule, and the later ones at each label
pub second_rule : (q : Question) → IsAccepted q → holds q 0 J2 ≡ true
second_rule q accepted =
    let all = find_holds (holds q 0) (J1 ∷ J2 ∷ later_rules) (accepted 0) in
    let later = (and_parts (holds q 0 J1) (list_all (holds q 0) (J2 ∷ later_rules)) all).1 in
    (and_parts (holds q 0 J2) (list_all (holds q 0) later_rules) later).0

pub each_rule : (q : Question) (label : ℕ) → IsAccepted q → list_all (holds q label) later_rules ≡ true
each_rule q zero accepted =
    let all = find_holds (holds q 0) (J1 ∷ J2 ∷ later_rules) (accepted 0) in
    let later = (and_parts (holds q 0 J1) (list_all (holds q 0) (J2 ∷ later_rules)) all).1 in
    (and_parts (holds q 0 J2) (list_all (holds q 0) later_rules) later).1
each_rule q (suc label) accepted = find_holds (holds q (suc label)) later_rules (accepted (suc label))

-- and is accepted where it does
pub is_accepted : (q : Question) → holds q 0 J1 ≡ true → holds q 0 J2 ≡ true → ((label : ℕ) → list_all (holds q label) later_rules ≡ true) → IsAccepted q
is_accepted q one two later zero = find_none (holds q 0) (J1 ∷ J2 ∷ later_rules) (both_are one (both_are two (later 0)))
is_accepted q one two later (suc label) = find_none (holds q (suc label)) later_rules (later (suc label))

pub all_from : {A : Type 0} (test : A → Bool) (xs : List A) → list_all test xs ≡ true → AllByRecursion (λ x. test x ≡ true) xs
all_from test [] e = tt
all_from test (x ∷ xs) e = let (here, rest) = and_parts (test x) (list_all test xs) e in (here, all_from test xs rest)

-- what the rules say of an instruction and its row
pub record EachRule (q : Question) (label : ℕ) (i : Instr) (row : Row) : Type 0 where
  pub indices : indices_exist q.env i ≡ true
  pub within : list_all (λ to. nat_lt to.to (length q.program)) (leads q.env label row i) ≡ true
  pub held : list_all (is_held row) (uses i) ≡ true
  pub targets : targets_fit row i ≡ true
  pub bytes : bytes_fit row i ≡ true
  pub share : share_fits row i ≡ true
  pub segments : segments_fit row i ≡ true
  pub leaves : may_leave q.env row i ≡ true
  pub ends : may_end row i ≡ true
  pub entailed : list_all (λ to. row_passes q.rows to.to (entails to.row)) (leads q.env label row i) ≡ true

pub each_from : (q : Question) (label : ℕ) (i : Instr) (row : Row) → list_all (holds_at q label i row) later_rules ≡ true → EachRule q label i row
each_from q label i row all =
    let (labels, (held, (targets, (bytes, (share, (segments, (leaves, (ends, (entailed, _))))))))) = all_from (holds_at q label i row) later_rules all in
    let (indices, within) = and_parts (indices_exist q.env i) (list_all (λ to. nat_lt to.to (length q.program)) (leads q.env label row i)) labels in
    record {
      indices = indices;
      within = within;
      held = held;
      targets = targets;
      bytes = bytes;
      share = share;
      segments = segments;
      leaves = leaves;
      ends = ends;
      entailed = entailed;
    }

pub all_hold : (q : Question) (label : ℕ) (i : Instr) (row : Row) → EachRule q label i row → list_all (holds_at q label i row) later_rules ≡ true
all_hold q label i row r =
    rw (r.indices, r.within, r.held, r.targets, r.bytes, r.share, r.segments, r.leaves, r.ends, r.entailed) refl
