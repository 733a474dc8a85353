-- Internal, no public contract names it: labels by their bytes.
use Rattle.std.specs.Prelude.{ℕ, List, map}
use denote.Ref.{Bor}

-- the entries of a map, each label as its bytes
abbrev pub by_bytes : List (Bor (List ℕ) × ℕ) → List (List ℕ × ℕ)
by_bytes entries = map (λ e. (e.0.now, e.1)) entries
