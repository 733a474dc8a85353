-- The labels of a printed text, as far as it is read.
use Rattle.std.proofs.Common.{◌≡◌, ℕ, suc, ◌^◌, ◌<◌, ◌≤◌, inl, inr, Bool, true, false, cond, List, ◌∷◌, Some, None, refl, ap, ◌∙◌, arith}
use Rattle.std.specs.Prelude.{is_some}
use Rattle.std.specs.Ordering.{nat_cmp}
use Rattle.std.specs.Cmp.Lexicographic.{slice_cmp, nat_list_cmp_total}
use Rattle.std.specs.FinMap.{empty, get, insert, contains_key, get-insert, get-empty}
use Rattle.std.specs.Fmt.{decimal}
use Rattle.std.specs.Str.{bytes_eq}
use Rattle.std.proofs.lemmas.Bool.{cases_lt}
use Rattle.std.proofs.lemmas.Fmt.{decimal_injective}
use Rattle.std.proofs.lemmas.Map.Text.{is_eq-slice_cmp}
use Rattle.std.proofs.lemmas.Slice.Eq.{bytes_eq-Decides}
use Rattle.dp_model.specs.declared.instr.Instr.{Instr}
use Rattle.dp_lang.specs.Printing.{is_named, label_name}
use Rattle.dp_lang.specs.Reading.{Labels}

-- ---- one label more

get_insert : (labels : Labels) (k q : List ℕ) (v : ℕ) → get (insert labels k v) q ≡ cond (bytes_eq q k) (Some v) (get labels q)
get_insert labels k q v = get-insert nat_list_cmp_total labels k v q ∙ ap (λ b. cond b (Some v) (get labels q)) (is_eq-slice_cmp q k)

get_same : (labels : Labels) (k : List ℕ) (v : ℕ) → get (insert labels k v) k ≡ Some v
get_same labels k v = get_insert labels k k v ∙ ap (λ b. cond b (Some v) (get labels k)) ((bytes_eq-Decides k k).1 refl)

apart : (b : Bool) (P : Type 0) → (b ≡ true → P) → (P → ⊥) → b ≡ false
apart true P h differ = absurd (differ (h refl))
apart false P h differ = refl

get_other : (labels : Labels) (k q : List ℕ) (v : ℕ) → (q ≡ k → ⊥) → get (insert labels k v) q ≡ get labels q
get_other labels k q v differ = get_insert labels k q v ∙ ap (λ b. cond b (Some v) (get labels q))
    (apart (bytes_eq q k) (q ≡ k) (bytes_eq-Decides q k).0 differ)

tail_same : (c : ℕ) (s t : List ℕ) → c ∷ s ≡ c ∷ t → s ≡ t
tail_same c s t h = cc

other_name : (m n : ℕ) → m < 2 ^ 64 → n < 2 ^ 64 → (m ≡ n → ⊥) → label_name m ≡ label_name n → ⊥
other_name m n small small' differ e = differ (decimal_injective m n small small' (tail_same 76 (decimal m) (decimal n) e))

-- ---- the labels of the first n instructions

pub record ArePlaced (program : List Instr) (n : ℕ) (labels : Labels) : Type 0 where
  pub earlier : (m : ℕ) → m < n → is_named program m ≡ true → get labels (label_name m) ≡ Some m
  pub later : (m : ℕ) → n ≤ m → m < 2 ^ 64 → get labels (label_name m) ≡ None

pub placed_none : (program : List Instr) → ArePlaced program 0 empty
placed_none program = record {
  earlier = λ m lt h. absurd (omega arith);
  later = λ m le small. get-empty (slice_cmp nat_cmp) (label_name m);
}

-- a label that nothing names is not printed
pub placed_skip : (program : List Instr) (n : ℕ) (labels : Labels) → is_named program n ≡ false → ArePlaced program n labels → ArePlaced program (suc n) labels
placed_skip program n labels none p = record {
  earlier = λ m lt h. elim (cases_lt m n) [
    | inl below ↦ p.earlier m below h
    | inr above ↦ let same : m ≡ n = omega arith in absurd (true_false (is_named program m) h (ap (is_named program) same ∙ none))
  ];
  later = λ m le small. p.later m (omega arith) small;
}
  where
    true_false : (b : Bool) → b ≡ true → b ≡ false → ⊥
    true_false true h k = cc
    true_false false h k = cc

pub placed_insert : (program : List Instr) (n : ℕ) (labels : Labels) → n < 2 ^ 64 → ArePlaced program n labels →
    ArePlaced program (suc n) (insert labels (label_name n) n)
placed_insert program n labels small p = record {
  earlier = λ m lt h. elim (cases_lt m n) [
    | inl below ↦ get_other labels (label_name n) (label_name m) n (other_name m n (omega arith) small (λ e. omega arith)) ∙ p.earlier m below h
    | inr above ↦ let same : m ≡ n = omega arith in rw same (get_same labels (label_name n) n)
  ];
  later = λ m le fits. get_other labels (label_name n) (label_name m) n (other_name m n fits small (λ e. omega arith)) ∙ p.later m (omega arith) fits;
}

pub is_new : (program : List Instr) (n : ℕ) (labels : Labels) → n < 2 ^ 64 → ArePlaced program n labels → contains_key labels (label_name n) ≡ false
is_new program n labels small p = ap is_some (p.later n (omega arith) small)
