-- How often an instruction ran is a sum over the labels up to its own.
use Rattle.std.proofs.Common.{◌≡◌, ℕ, zero, suc, ◌+◌, ◌*◌, ◌%◌, ◌/◌, ◌^◌, ◌<◌, Bool, true, false, cond}
use Rattle.std.proofs.Common.{List, length, refl, sym, ◌∙◌, ap, subst, arith, add-zero}
use Rattle.std.specs.Prelude.{◌==◌, ◌≤◌, ◌-◌, slice_index}
use Rattle.std.proofs.lemmas.Bool.{eqb-true, eqb-false, ne_eqb}
use Rattle.std.proofs.Math.Dec.{eqb-suc-suc}
use Rattle.std.proofs.Math.Nat.{add-suc, mod-lt, mod-add-div, add-mul-mod_self_left}
use Rattle.std.proofs.lemmas.List.{get_or-set_same}
use Rattle.dp_model.specs.Arithmetic.{wrapped}
use Rattle.dp_counts.specs.Counting.{Tally, one_more, minus_wrapped, on_from, ran_at, HasNone, IsTally}
use Rattle.dp_counts.proofs.Tallies.{index_other}

-- ---- numbers that are the same modulo 2^64

abbrev pub Same : ℕ → ℕ → Type 0
Same m n = (a : ℕ) × (b : ℕ) × (m + 18446744073709551616 * a ≡ n + 18446744073709551616 * b)

pub same : (m n : ℕ) → m ≡ n → Same m n
same m n is = (0, 0, omega (arith, is))

pub same_wrapped : (m : ℕ) → Same (wrapped m) m
same_wrapped m = (m / 18446744073709551616, 0, mod-add-div m 18446744073709551616 ∙ omega arith)

pub wrapped_same : (m n : ℕ) → Same m n → wrapped m ≡ wrapped n
wrapped_same m n (a, b, is) =
    sym (add-mul-mod_self_left m 18446744073709551616 a) ∙ ap (λ x. x % 18446744073709551616) is ∙ add-mul-mod_self_left n 18446744073709551616 b

-- a difference
less_same : (m n : ℕ) → n < 2 ^ 64 → Same (minus_wrapped m n + n) m
less_same m n few =
    let (a, b, is) = same_wrapped (m + (2 ^ 64 - n)) in
    (a, b + 1, omega (arith, is, few))

-- ---- sums

-- the sum of n numbers from one on
abbrev pub sum_from : List ℕ → ℕ → ℕ → ℕ
sum_from numbers k zero = 0
sum_from numbers k (suc n) = sum_from numbers k n + slice_index numbers (k + n)

abbrev pub one_if : Bool → ℕ
one_if b = cond b 1 0

-- how many of n indexes from one on are this one
abbrev pub hits : ℕ → ℕ → ℕ → ℕ
hits k zero j = 0
hits k (suc n) j = hits k n j + one_if (j == k + n)

one_at : (b : Bool) (j k : ℕ) (numbers : List ℕ) → (j == k) ≡ b → k < length numbers
    → Same (slice_index (one_more j numbers) k) (slice_index numbers k + one_if b)
one_at true j k numbers e few =
    let here : j ≡ k = eqb-true j k e in
    subst (λ i. Same (slice_index (one_more i numbers) k) (slice_index numbers k + 1)) (sym here)
    (subst (λ x. Same x (slice_index numbers k + 1)) (sym (get_or-set_same numbers k (wrapped (slice_index numbers k + 1)) 0 few))
    (same_wrapped (slice_index numbers k + 1)))
one_at false j k numbers e few =
    let is = index_other numbers j k (wrapped (slice_index numbers j + 1)) (eqb-false j k e) in
    same _ _ (is ∙ sym (add-zero (slice_index numbers k)))

-- one more adds one to a sum, if its index is among those that are added up
pub sum_more : (numbers : List ℕ) (j k n : ℕ) → k + n ≤ length numbers → Same (sum_from (one_more j numbers) k n) (sum_from numbers k n + hits k n j)
sum_more numbers j k zero few = same _ _ refl
sum_more numbers j k (suc n) few =
    let (a, b, is) = sum_more numbers j k n (omega (arith, few)) in
    let (c, d, one) = one_at (j == k + n) j (k + n) numbers refl (omega (arith, few)) in
    (a + c, b + d, omega (arith, is, one))

-- the index after is among those after
pub hits_next : (j k n : ℕ) → (suc j ≡ k → ⊥) → hits k (suc n) (suc j) ≡ hits k n j
hits_next j k zero other = ap (λ b. 0 + one_if b) (ne_eqb (suc j) (k + 0) (λ e. other (e ∙ add-zero k)))
hits_next j k (suc n) other =
    ap (λ m. m + one_if (suc j == k + suc n)) (hits_next j k n other)
    ∙ ap (λ b. hits k n j + one_if b) (ap (λ m. suc j == m) (add-suc k n) ∙ eqb-suc-suc j (k + n))

-- ---- how often an instruction ran

-- as often as control came to the labels up to its own, less how often it left from those before
pub ran_sums : (t : Tally) (place label : ℕ) → IsTally t → place + label < 16384
    → Same (ran_at t place label + (sum_from t.taken place label + (sum_from t.ended place label + sum_from t.cut place label)))
    (sum_from t.came place (suc label))
ran_sums t place zero is few =
    let here : slice_index t.came place ≡ slice_index t.came (place + 0) = ap (slice_index t.came) (sym (add-zero place)) in
    same _ _ (omega (arith, here))
ran_sums t place (suc label) is few =
    let k = place + label in
    let (a, b, before) = ran_sums t place label is (omega (arith, few)) in
    let r = ran_at t place label in
    let taken = slice_index t.taken k in
    let ended = slice_index t.ended k in
    let cut = slice_index t.cut k in
    let (a1, b1, one) = less_same r taken (is.taken.small k (omega (arith, few))) in
    let (a2, b2, two) = less_same (minus_wrapped r taken) ended (is.ended.small k (omega (arith, few))) in
    let (a3, b3, three) = less_same (minus_wrapped (minus_wrapped r taken) ended) cut (is.cut.small k (omega (arith, few))) in
    let (a4, b4, four) = same_wrapped (on_from t k r + slice_index t.came (k + 1)) in
    let here : slice_index t.came (k + 1) ≡ slice_index t.came (place + suc label) = ap (slice_index t.came) (omega arith) in
    (a + a1 + a2 + a3 + a4, b + b1 + b2 + b3 + b4, omega (arith, before, one, two, three, four, here))

-- it is a number of 64 bits
pub ran_small : (t : Tally) (place label : ℕ) → IsTally t → place + label < 16384 → ran_at t place label < 2 ^ 64
ran_small t place zero is few = is.came.small place (omega (arith, few))
ran_small t place (suc label) is few = mod-lt (on_from t (place + label) (ran_at t place label) + slice_index t.came (place + label + 1)) (omega arith)

-- ---- counts that begin

pub ran_none : (t : Tally) (place label : ℕ) → HasNone t → ran_at t place label ≡ 0
ran_none t place zero none = none.came place
ran_none t place (suc label) none =
    let k = place + label in
    rw (ran_none t place label none, none.taken k, none.ended k, none.cut k, none.came (k + 1)) refl
