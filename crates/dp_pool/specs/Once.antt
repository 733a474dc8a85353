-- Internal: which of the indexes below a number occur in a list, each once.
use Rattle.std.specs.Prelude.{◌≡◌, ℕ, zero, suc, ◌+◌, ◌≤◌, Bool, ◌==◌, if◌then◌else◌, List, [], ◌∷◌, ◌++◌}

-- how often an index occurs in a list
abbrev pub occurs : ℕ → List ℕ → ℕ
occurs i [] = 0
occurs i (x ∷ xs) = (if x == i then 1 else 0) + occurs i xs

-- for each of the n indexes from i: whether it does not occur in the list
abbrev pub absent_from : ℕ → ℕ → List ℕ → List Bool
absent_from i zero ins = []
absent_from i (suc n) ins = (occurs i ins == 0) ∷ absent_from (suc i) n ins

-- the same for the indexes below n
abbrev pub absent : ℕ → List ℕ → List Bool
absent n ins = absent_from 0 n ins

-- all are below n, and none occurs twice
pub record AreOnce (n : ℕ) (ins : List ℕ) : Type 0 where
  pub below : (i : ℕ) → n ≤ i → occurs i ins ≡ 0
  pub once : (i : ℕ) → occurs i ins ≤ 1

-- the indexes below n, in order
abbrev pub upto : ℕ → List ℕ
upto zero = []
upto (suc n) = upto n ++ n ∷ []
