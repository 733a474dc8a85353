-- Which parts of a region are lent: a list of spans, by offset.
use Rattle.std.specs.Prelude.{◌≡◌, ℕ, ◌+◌, ◌<◌, ◌≤◌, Bool, false, ◌&&◌, ◌||◌, List, [], ◌∷◌, ◌++◌, length, take, drop, IsTrue, ◌==◌, nat_le, nat_lt}
use Rattle.std.specs.Prelude.{if◌then◌else◌}

-- an offset and a length, in bytes
abbrev pub Span : Type 0
Span = ℕ × ℕ

abbrev pub is_span : Span → Span → Bool
is_span r s = (r.0 == s.0) && (r.1 == s.1)

-- whether r is in the list
abbrev pub listed : Span → List Span → Bool
listed r [] = false
listed r (s ∷ ss) = is_span r s || listed r ss

-- whether the byte at k lies in r
abbrev pub covers : Span → ℕ → Bool
covers r k = nat_le r.0 k && nat_lt k (r.0 + r.1)

-- whether the byte at k lies in a span of the list
abbrev pub is_lent : List Span → ℕ → Bool
is_lent [] k = false
is_lent (r ∷ rs) k = covers r k || is_lent rs k

-- none of the n bytes at p is lent
abbrev pub IsUnlent : List Span → ℕ → ℕ → Type 0
IsUnlent ls p n = (k : ℕ) → p ≤ k → k < p + n → is_lent ls k ≡ false

-- the list with r inserted, in order of offsets
abbrev pub with_span : Span → List Span → List Span
with_span r [] = r ∷ []
with_span r (s ∷ ss) = if nat_lt r.0 s.0 then r ∷ s ∷ ss else s ∷ with_span r ss

-- the list without r
abbrev pub without_span : Span → List Span → List Span
without_span r [] = []
without_span r (s ∷ ss) = if is_span r s then ss else s ∷ without_span r ss

-- the spans lie between low and high in order, do not overlap, and none is empty
abbrev pub spaced : ℕ → ℕ → List Span → Bool
spaced low high [] = nat_le low high
spaced low high (r ∷ rs) = nat_le low r.0 && (nat_lt 0 r.1 && spaced (r.0 + r.1) high rs)

abbrev pub Spaced : ℕ → ℕ → List Span → Type 0
Spaced low high rs = IsTrue (spaced low high rs)

-- the n bytes of xs at p
abbrev pub bytes_in : List ℕ → ℕ → ℕ → List ℕ
bytes_in xs p n = take n (drop p xs)

-- xs with ws written over it from p on
abbrev pub with_bytes : List ℕ → ℕ → List ℕ → List ℕ
with_bytes xs p ws = take p xs ++ (ws ++ drop (p + length ws) xs)

-- xs with the content ws. A longer ws is cut, and a shorter one keeps the rest of xs
abbrev pub refilled : List ℕ → List ℕ → List ℕ
refilled xs ws = take (length xs) (ws ++ drop (length ws) xs)

-- xs with ws written over it at p. Bytes past the end are dropped
abbrev pub overlaid : List ℕ → ℕ → List ℕ → List ℕ
overlaid xs p ws = refilled xs (take p xs ++ (ws ++ drop (length ws) (drop p xs)))
