-- Internal: laws of spans, and of bytes and numbers that are written, for this crate and those above it.
use Rattle.std.proofs.Common.{◌≡◌, ℕ, ◌+◌, ◌^◌, ◌<◌, ◌≤◌, ◌⊎◌, inl, inr, Bool, true, false, leb, ltb, eqb, List, [], length, refl, sym, ap, ap₂}
use Rattle.std.proofs.Common.{◌∙◌, subst, get_or}
use Rattle.std.proofs.lemmas.Bool.{eqb-true, le-ltb, lt-leb, and_parts, and_left, and_right}
use Rattle.std.proofs.lemmas.List.{ext_get_or}
use Rattle.std.proofs.Math.Nat.{le_refl, le_trans, le-add_right, lt_of_lt_of_le, add-lt-add_of_le_of_lt, add-sub_cancel_left}
use mathlib.Core.Logic.{⊎_elim}
use mathlib.Core.List.{append-nil}
use Rattle.core.proofs.slots.Runs.{in_run, run_long, spliced_long, inside, outside}
use Rattle.byteorder.specs.Endian.{little_number, little_bytes}
use Rattle.byteorder.specs.Numbers.{little_number-reads_back}
use Rattle.dp_region.specs.Spans.{Span, is_span, covers, bytes_in, with_bytes}
use Rattle.dp_region.specs.Region.{number_at, with_number}

-- what follows from a test being true and from its being false
pub by_test : {X : Type 0} (t : Bool) → (t ≡ true → X) → (t ≡ false → X) → X
by_test true y n = y refl
by_test false y n = n refl

-- spans that the test finds equal are equal
pub is_span-true : (r s : Span) → is_span r s ≡ true → r ≡ s
is_span-true r s e = let b = and_parts (eqb r.0 s.0) (eqb r.1 s.1) e in ap₂ (λ (x y : ℕ). (x, y)) (eqb-true r.0 s.0 b.0) (eqb-true r.1 s.1 b.1)

-- a span covers nothing below it
pub covers-below : (r : Span) (k : ℕ) → k < r.0 → covers r k ≡ false
covers-below r k p = and_left (leb r.0 k) (ltb k (r.0 + r.1)) (lt-leb r.0 k p)

-- nor above its end
pub covers-above : (r : Span) (k : ℕ) → r.0 + r.1 ≤ k → covers r k ≡ false
covers-above r k p = and_right (leb r.0 k) (ltb k (r.0 + r.1)) (le-ltb k (r.0 + r.1) p)

-- `bytes_in` takes n bytes
pub length-bytes_in : (xs : List ℕ) (p n : ℕ) → p + n ≤ length xs → length (bytes_in xs p n) ≡ n
length-bytes_in xs p n fits = run_long xs p n fits

-- a write keeps the length
pub length-with_bytes : (xs : List ℕ) (p : ℕ) (ws : List ℕ) → p + length ws ≤ length xs → length (with_bytes xs p ws) ≡ length xs
length-with_bytes xs p ws fits = spliced_long xs p (length ws) fits ws refl

module _ (xs : List ℕ) (p : ℕ) (ws : List ℕ) (fits : p + length ws ≤ length xs) where
  long : (q n : ℕ) → q + n ≤ length xs → length (bytes_in (with_bytes xs p ws) q n) ≡ n
  long q n room = length-bytes_in (with_bytes xs p ws) q n (subst (λ m. q + n ≤ m) (sym (length-with_bytes xs p ws fits)) room)

  -- a read of what was written returns it
  pub bytes_in-same : bytes_in (with_bytes xs p ws) p (length ws) ≡ ws
  bytes_in-same =
      let n = long p (length ws) fits in
      ext_get_or 0 (bytes_in (with_bytes xs p ws) p (length ws)) ws n (λ k h.
      let less = subst (λ m. k < m) n h in
      in_run (with_bytes xs p ws) p (length ws) k 0 less
      ∙ inside xs p (length ws) fits ws refl (p + k) 0 (le-add_right p k) (add-lt-add_of_le_of_lt (le_refl p) less)
      ∙ ap (λ (j : ℕ). get_or ws j 0) (add-sub_cancel_left p k))

  -- a write leaves other bytes
  pub bytes_in-other : (q n : ℕ) → q + n ≤ length xs → (q + n ≤ p) ⊎ (p + length ws ≤ q) → bytes_in (with_bytes xs p ws) q n ≡ bytes_in xs q n
  bytes_in-other q n room off =
      let new = long q n room in
      let old = length-bytes_in xs q n room in
      ext_get_or 0 (bytes_in (with_bytes xs p ws) q n) (bytes_in xs q n) (new ∙ sym old) (λ k h.
      let less = subst (λ m. k < m) new h in
      in_run (with_bytes xs p ws) q n k 0 less
      ∙ outside xs p (length ws) fits ws refl (q + k) 0
      (⊎_elim (λ a. inl (lt_of_lt_of_le (add-lt-add_of_le_of_lt (le_refl q) less) a)) (λ a. inr (le_trans a (le-add_right q k))) off)
      ∙ sym (in_run xs q n k 0 less))

-- a write leaves other numbers
pub number_at-kept : (xs : List ℕ) (p : ℕ) (ws : List ℕ) (q : ℕ) → p + length ws ≤ length xs → q + 4 ≤ length xs → (q + 4 ≤ p) ⊎ (p + length ws ≤ q)
    → number_at (with_bytes xs p ws) q 4 ≡ number_at xs q 4
number_at-kept xs p ws q fits room off = ap (λ (l : List ℕ). little_number 4 l) (bytes_in-other xs p ws fits q 4 room off)

module _ (xs : List ℕ) (p x : ℕ) (fits : p + 4 ≤ length xs) where
  -- writing a number keeps the length
  pub length-with_number : length (with_number xs p 4 x) ≡ length xs
  length-with_number = length-with_bytes xs p (little_bytes 4 x) fits

  -- reading the number back returns it
  pub number_at-same : x < 2 ^ 32 → number_at (with_number xs p 4 x) p 4 ≡ x
  number_at-same small =
      ap (λ (l : List ℕ). little_number 4 l) (bytes_in-same xs p (little_bytes 4 x) fits ∙ sym (append-nil (little_bytes 4 x)))
      ∙ little_number-reads_back 4 x [] small

  -- it leaves other numbers
  pub number_at-other : (q : ℕ) → q + 4 ≤ length xs → (q + 4 ≤ p) ⊎ (p + 4 ≤ q) → number_at (with_number xs p 4 x) q 4 ≡ number_at xs q 4
  number_at-other q room off = ap (λ (l : List ℕ). little_number 4 l) (bytes_in-other xs p (little_bytes 4 x) fits q 4 room off)
