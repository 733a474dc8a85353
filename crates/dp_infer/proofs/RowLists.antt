-- Lists of rows.
use Rattle.std.proofs.Common.{◌≡◌, ℕ, zero, suc, ◌<◌, Bool, true, List, [], ◌∷◌, set, Some, refl, ap, ◌⊎◌, inl, inr, arith}
use Rattle.std.specs.Prelude.{slice_get}
use Rattle.std.specs.List.{list_all}
use Rattle.std.proofs.lemmas.Bool.{and_parts}
use Rattle.dp_model.specs.declared.row.Row.{Row}
use Rattle.dp_model.specs.Rows.{entails, is_well_formed_row}
use Rattle.dp_model.specs.Rules.{row_passes}
use Rattle.dp_infer.proofs.Stronger.{Stronger, stronger, row_test, both_are}
use Rattle.dp_infer.proofs.Changes.{AreWellFormed}

-- ---- lists

-- an element after a write is the new one or an old one
pub set_cases : {A : Type 0} (xs : List A) (i k : ℕ) (x y : A) → slice_get (set xs i x) k ≡ Some y → ((k ≡ i) × (x ≡ y)) ⊎ (slice_get xs k ≡ Some y)
set_cases [] i k x y e = inr e
set_cases (z ∷ zs) zero zero x y e = inl (refl, cc)
set_cases (z ∷ zs) zero (suc k) x y e = inr e
set_cases (z ∷ zs) (suc i) zero x y e = inr e
set_cases (z ∷ zs) (suc i) (suc k) x y e =
    elim (set_cases zs i k x y e) [
      | inl here ↦ inl (ap suc here.0, here.1)
      | inr other ↦ inr other
    ]

pub set_before : {A : Type 0} (xs : List A) (i k : ℕ) (x : A) → k < i → slice_get (set xs i x) k ≡ slice_get xs k
set_before [] i k x lt = refl
set_before (z ∷ zs) zero k x lt = absurd (omega arith)
set_before (z ∷ zs) (suc i) zero x lt = refl
set_before (z ∷ zs) (suc i) (suc k) x lt = set_before zs i k x (omega arith)

pub all_set : {A : Type 0} (test : A → Bool) (xs : List A) (i : ℕ) (x : A) → list_all test xs ≡ true → test x ≡ true → list_all test (set xs i x) ≡ true
all_set test [] i x e h = refl
all_set test (z ∷ zs) zero x e h = both_are h (and_parts (test z) (list_all test zs) e).1
all_set test (z ∷ zs) (suc i) x e h = let (here, rest) = and_parts (test z) (list_all test zs) e in both_are here (all_set test zs i x rest h)

-- a row that passes exists
pub passes_at : (rows : List Row) (k : ℕ) (row : Row) → row_passes rows k (entails row) ≡ true → (u : Row) × (slice_get rows k ≡ Some u) × Stronger row u
passes_at [] k row e = absurd cc
passes_at (u ∷ rows) zero row e = (u, refl, stronger row u e)
passes_at (u ∷ rows) (suc k) row e = passes_at rows k row e

pub passes : (rows : List Row) (k : ℕ) (row u : Row) → slice_get rows k ≡ Some u → Stronger row u → row_passes rows k (entails row) ≡ true
passes rows k row u e s = rw (e, row_test row u s) refl

pub fits_from : (row : Row) → is_well_formed_row row ≡ true → AreWellFormed row
fits_from row e = e
