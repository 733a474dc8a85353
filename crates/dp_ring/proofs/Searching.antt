-- Searching a list for a number, from its front on.
use Rattle.std.proofs.Common.{◌≡◌, ℕ, zero, suc, true, false, ◌||◌, eqb, List, [], ◌∷◌, drop, slice_get, Some, ap, ◌∙◌}
use Rattle.std.specs.Prelude.{unwrap_or}
use Rattle.std.specs.List.{list_any}
use Rattle.std.proofs.lemmas.Option.{none-some}

-- the number is found at index k
pub found_at : (xs : List ℕ) (k x y : ℕ) → slice_get xs k ≡ Some x → eqb x y ≡ true → list_any (λ z. eqb z y) (drop k xs) ≡ true
found_at [] k x y is same = absurd (none-some x is)
found_at (z ∷ xs) zero x y is same = ap (λ b. b || list_any (λ w. eqb w y) xs) (ap (λ o. eqb (unwrap_or o x) y) is ∙ same)
found_at (z ∷ xs) (suc k) x y is same = found_at xs k x y is same

-- another number is at index k
pub missed_at : (xs : List ℕ) (k x y : ℕ) → slice_get xs k ≡ Some x → eqb x y ≡ false → list_any (λ z. eqb z y) (drop k xs)
    ≡ list_any (λ z. eqb z y) (drop (suc k) xs)
missed_at [] k x y is other = absurd (none-some x is)
missed_at (z ∷ xs) zero x y is other = ap (λ b. b || list_any (λ w. eqb w y) xs) (ap (λ o. eqb (unwrap_or o x) y) is ∙ other)
missed_at (z ∷ xs) (suc k) x y is other = missed_at xs k x y is other
