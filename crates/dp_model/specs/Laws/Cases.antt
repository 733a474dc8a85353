-- Internal: case analysis on tests.
use Rattle.std.proofs.Common.{◌≡◌, ℕ, Bool, true, false, cond, refl}
use Rattle.std.specs.Prelude.{MatchBool}

-- what follows from a test being true and from its being false
pub by_cases : {G : Type 0} (b : Bool) → (b ≡ true → G) → (b ≡ false → G) → G
by_cases true f g = f refl
by_cases false f g = g refl

-- if a test is true, the first of two facts is to be proved, and if it is false the second
pub match_true : (b : Bool) (P Q : Type 0) → b ≡ true → P → MatchBool b P Q
match_true true P Q e x = x
match_true false P Q e x = cc

pub match_false : (b : Bool) (P Q : Type 0) → b ≡ false → Q → MatchBool b P Q
match_false false P Q e x = x
match_false true P Q e x = cc

-- what follows from each of two facts follows from the one that a test chooses
pub matched : {G : Type 0} (b : Bool) (P Q : Type 0) → MatchBool b P Q → (P → G) → (Q → G) → G
matched true P Q h f g = f h
matched false P Q h f g = g h

-- 1 for true
abbrev pub one_if : Bool → ℕ
one_if b = cond b 1 0
