-- Two lists of eight are paired, index by index.
use Rattle.std.proofs.Common.{◌≡◌, ℕ, List, ◌++◌, take, drop, length}
use Rattle.dp_infer.specs.Joins.{paired}

-- the indexes below this one are paired, and the others are as they were
abbrev pub IsPairedTo : {A : Type 0} → (A → A → A) → ℕ → List A → List A → List A → Type 0
IsPairedTo f i done xs ys = record {
  found : take i done ++ paired f (drop i xs) (drop i ys) ≡ paired f xs ys;
  eight : length done ≡ 8;
}
