-- Where no position is found, no element passes the test.
use Rattle.std.proofs.Common.{◌≡◌, ℕ, suc, ◌+◌, ◌≤◌, Bool, true, false, not, ◌||◌, cond, ltb, List, [], ◌∷◌, length, Some, None, position, refl, ap, arith}
use Rattle.std.specs.Prelude.{is_some}
use Rattle.std.specs.List.{list_any, prefix_len, position_or_len}
use Rattle.std.proofs.lemmas.Bool.{ltb-false, true≢false}

step : (b : Bool) (n m : ℕ) (any : Bool) → (m ≤ n → any ≡ false) → suc m ≤ cond (not b) (1 + n) 0 → (b || any) ≡ false
step true n m any rest long = absurd (omega (arith, long))
step false n m any rest long = rest (omega (arith, long))

none_passes : {X : Type 0} (p : X → Bool) (xs : List X) → length xs ≤ prefix_len (λ x. not (p x)) xs → list_any p xs ≡ false
none_passes p [] long = refl
none_passes p (x ∷ xs) long = step (p x) (prefix_len (λ y. not (p y)) xs) (length xs) (list_any p xs) (none_passes p xs) long

missed : (b : Bool) (n : ℕ) → cond b (Some n) None ≡ None → b ≡ false
missed true n is = absurd (true≢false (ap is_some is))
missed false n is = refl

-- without a first element that passes, none passes
pub none_from_position : {X : Type 0} (p : X → Bool) (xs : List X) → position p xs ≡ None → list_any p xs ≡ false
none_from_position p xs is = none_passes p xs (ltb-false (position_or_len p xs) (length xs)
    (missed (ltb (position_or_len p xs) (length xs)) (position_or_len p xs) is))
