-- Testing the rest of a list.
use Rattle.std.proofs.Common.{◌≡◌, ℕ, zero, suc, ◌+◌, Bool, true, List, [], ◌∷◌, Some, None, ◌<◌, length, get_or, drop, add-one, inr}
use Rattle.std.proofs.Common.{sym, subst, arith}
use Rattle.std.specs.Prelude.{◌&&◌, not, false, if◌then◌else◌, slice_get, Option, IfSome}
use Rattle.std.specs.List.{find, list_all, position_from}
use Rattle.std.specs.Option.{option_and_then}
use Rattle.std.proofs.lemmas.Option.{slice_get-get_or}
use Rattle.dp_check.specs.Diagnoses.{Is, Says, Explains, first_failing}
use Rattle.dp_check.specs.declared.reason.Reason.{Reason}
use Rattle.dp_model.specs.Rules.{Question}
use Rattle.dp_model.specs.declared.instr.Instr.{Instr}
use Rattle.dp_model.specs.declared.row.Row.{Row}

all_step : {A : Type 0} → (test : A → Bool) (xs : List A) (i : ℕ) (x : A) → slice_get xs i ≡ Some x → list_all test (drop i xs)
    ≡ (test x && list_all test (drop (suc i) xs))
all_step test (y ∷ xs) zero x e = cc
all_step test (y ∷ xs) (suc i) x e = all_step test xs i x e
all_step test [] i x e = cc

pub all_drop : {A : Type 0} → (test : A → Bool) (xs : List A) (i : ℕ) (x : A) → slice_get xs i ≡ Some x → list_all test (drop i xs)
    ≡ (test x && list_all test (drop (i + 1) xs))
all_drop test xs i x e = rw add-one (all_step test xs i x e)

pass_step : {A : Type 0} → (test : A → Bool) (xs : List A) (i : ℕ) → Is (slice_get xs i) (λ x. test x ≡ true) → list_all test (drop i xs)
    ≡ list_all test (drop (suc i) xs)
pass_step test (y ∷ xs) zero h = cc
pass_step test (y ∷ xs) (suc i) h = pass_step test xs i h
pass_step test [] i h = absurd h

-- where the test passes at an index, the rest decides
pub passed : {A : Type 0} → (test : A → Bool) (xs : List A) (i : ℕ) → Is (slice_get xs i) (λ x. test x ≡ true) → list_all test (drop i xs)
    ≡ list_all test (drop (i + 1) xs)
passed test xs i h = rw add-one (pass_step test xs i h)

unpassed_step : {A : Type 0} → (test : A → Bool) (xs : List A) (i : ℕ) → Is (slice_get xs i) (λ x. test x ≡ true) → find (λ x. not (test x)) (drop i xs)
    ≡ find (λ x. not (test x)) (drop (suc i) xs)
unpassed_step test (y ∷ xs) zero h = cc
unpassed_step test (y ∷ xs) (suc i) h = unpassed_step test xs i h
unpassed_step test [] i h = absurd h

-- where the test passes at an index, the first failure is in the rest
pub unpassed : {A : Type 0} → (test : A → Bool) (xs : List A) (i : ℕ) → Is (slice_get xs i) (λ x. test x ≡ true) → find (λ x. not (test x)) (drop i xs)
    ≡ find (λ x. not (test x)) (drop (i + 1) xs)
unpassed test xs i h = rw add-one (unpassed_step test xs i h)

-- where it fails at an index, that is the first failure of the rest
pub first_unpassed : {A B : Type 0} → (test : A → Bool) (f : A → Option B) (xs : List A) (i : ℕ) (b : B) →
    Is (slice_get xs i) (λ x. (test x ≡ false) × (f x ≡ Some b)) → option_and_then f (find (λ x. not (test x)) (drop i xs)) ≡ Some b
first_unpassed test f (x ∷ xs) zero b h = cc
first_unpassed test f (x ∷ xs) (suc i) b h = first_unpassed test f xs i b h
first_unpassed test f [] i b h = absurd h

-- what is said of an instruction and its row explains their label
pub explained : (q : Question) (label : ℕ) (i : Instr) (row : Row) (o : Option Reason) → slice_get q.program label ≡ Some i →
    slice_get q.rows label ≡ Some row → IfSome o (Says q label i row) → IfSome o (Explains q label)
explained q label i row None ei er h = h
explained q label i row (Some reason) ei er h = inr (rw (ei, er) h)

-- the element at an index that is equal
pub at_index : {A : Type 0} → (xs : List A) (i j : ℕ) (d : A) → j ≡ i → i < length xs → slice_get xs i ≡ Some (get_or xs j d)
at_index xs i j d same below = subst (λ k. slice_get xs i ≡ Some (get_or xs k d)) (sym same) (slice_get-get_or xs i d below)

failing_step : {A : Type 0} → (test : A → A → Bool) (k : ℕ) (xs ys : List A) (i : ℕ) (x y : A) → slice_get xs i ≡ Some x → slice_get ys i ≡ Some y
    → first_failing test k (drop i xs) (drop i ys) ≡ (if test x y then first_failing test (k + 1) (drop (suc i) xs) (drop (suc i) ys) else Some k)
failing_step test k (x' ∷ xs) (y' ∷ ys) zero x y e f = cc
failing_step test k (x' ∷ xs) (y' ∷ ys) (suc i) x y e f = failing_step test k xs ys i x y e f
failing_step test k [] ys i x y e f = cc
failing_step test k (x' ∷ xs) [] i x y e f = cc

-- the first index of the rest at which a test fails
pub failing_drop : {A : Type 0} → (test : A → A → Bool) (xs ys : List A) (i : ℕ) (x y : A) → slice_get xs i ≡ Some x → slice_get ys i ≡ Some y
    → first_failing test i (drop i xs) (drop i ys) ≡ (if test x y then first_failing test (i + 1) (drop (i + 1) xs) (drop (i + 1) ys) else Some i)
failing_drop test xs ys i x y e f =
    let next : suc i ≡ i + 1 = omega arith in
    subst (λ n. first_failing test i (drop i xs) (drop i ys) ≡ (if test x y then first_failing test (i + 1) (drop n xs) (drop n ys) else Some i)) next
    (failing_step test i xs ys i x y e f)

found_step : {A : Type 0} → (test : A → Bool) (k : ℕ) (xs : List A) (i : ℕ) (x : A) → slice_get xs i ≡ Some x
    → position_from test k (drop i xs) ≡ (if test x then Some k else position_from test (k + 1) (drop (suc i) xs))
found_step test k (y ∷ xs) zero x e = cc
found_step test k (y ∷ xs) (suc i) x e = found_step test k xs i x e
found_step test k [] i x e = cc

-- the first index of the rest at which a test passes
pub found_drop : {A : Type 0} → (test : A → Bool) (xs : List A) (i : ℕ) (x : A) → slice_get xs i ≡ Some x
    → position_from test i (drop i xs) ≡ (if test x then Some i else position_from test (i + 1) (drop (i + 1) xs))
found_drop test xs i x e =
    let next : suc i ≡ i + 1 = omega arith in
    subst (λ n. position_from test i (drop i xs) ≡ (if test x then Some i else position_from test (i + 1) (drop n xs))) next
    (found_step test i xs i x e)
