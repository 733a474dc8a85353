-- Reading numbers from bytes of which a part was overwritten.
use Rattle.std.proofs.Common.{◌≡◌, ℕ, ◌+◌, ◌*◌, ◌^◌, ◌<◌, ◌≤◌, List, ◌++◌, ◌-◌, length, take, drop, refl, sym, ap, ◌∙◌, arith, inl, inr, below_more}
use Rattle.std.specs.Prelude.{slice_index}
use borrow.Rule.Slice.PartMut.{put_mid}
use mathlib.Core.Logic.{⊎_elim}
use lib.ListN.{get_or}
use Rattle.std.proofs.lemmas.List.{ext_get_or, get_or-drop, drop-drop, take_at}
use Rattle.core.proofs.slots.Runs.{in_run, run_long, inside}
use Rattle.byteorder.specs.Endian.{little_number}
use Rattle.dp_region.specs.Spans.{bytes_in, with_bytes}
use Rattle.dp_region.specs.Region.{number_at, with_number}
use Rattle.dp_region.specs.Laws.{length-with_bytes, number_at-same, number_at-other, number_at-kept}
use Rattle.dp_ring.specs.Rings.{IsRun, Stores}

-- a number inside what was written
number_at-inside : (xs : List ℕ) (p : ℕ) (ws : List ℕ) (q : ℕ) → p + length ws ≤ length xs → q + 4 ≤ length ws → number_at (with_bytes xs p ws) (p + q) 4
    ≡ number_at ws q 4
number_at-inside xs p ws q fits room =
    let all = length-with_bytes xs p ws fits in
    let new = run_long (with_bytes xs p ws) (p + q) 4 (omega arith) in
    let own = run_long ws q 4 room in
    ap (λ (l : List ℕ). little_number 4 l) (ext_get_or 0 (bytes_in (with_bytes xs p ws) (p + q) 4) (bytes_in ws q 4) (new ∙ sym own) (λ k h.
    in_run (with_bytes xs p ws) (p + q) 4 k 0 (omega arith)
    ∙ inside xs p (length ws) fits ws refl (p + q + k) 0 (omega arith) (omega arith)
    ∙ ap (λ (j : ℕ). get_or ws j 0) (omega arith)
    ∙ sym (in_run ws q 4 k 0 (omega arith))))

-- four bytes that are the same make the same number
same_number : (xs ys : List ℕ) → ((j : ℕ) → j < 4 → get_or xs j 0 ≡ get_or ys j 0) → little_number 4 xs ≡ little_number 4 ys
same_number xs ys same =
    ap (λ n. n + 256 * (get_or xs 1 0 + 256 * (get_or xs 2 0 + 256 * (get_or xs 3 0 + 0)))) (same 0 (omega arith))
    ∙ (ap (λ n. get_or ys 0 0 + 256 * (n + 256 * (get_or xs 2 0 + 256 * (get_or xs 3 0 + 0)))) (same 1 (omega arith))
    ∙ (ap (λ n. get_or ys 0 0 + 256 * (get_or ys 1 0 + 256 * (n + 256 * (get_or xs 3 0 + 0)))) (same 2 (omega arith))
    ∙ ap (λ n. get_or ys 0 0 + 256 * (get_or ys 1 0 + 256 * (get_or ys 2 0 + 256 * (n + 0)))) (same 3 (omega arith))))

-- a number in a part of the bytes
pub number_in_part : (xs : List ℕ) (at m q : ℕ) → q + 4 ≤ m → number_at xs (at + q) 4 ≡ little_number 4 (drop q (bytes_in xs at m))
number_in_part xs at m q room = same_number (bytes_in xs (at + q) 4) (drop q (bytes_in xs at m)) (λ j h.
    in_run xs (at + q) 4 j 0 h
    ∙ (ap (λ (n : ℕ). get_or xs n 0) (omega arith)
    ∙ sym (get_or-drop q (bytes_in xs at m) j 0 ∙ in_run xs at m (q + j) 0 (omega arith))))

-- one number more
pub run_more : (bytes numbers : List ℕ) (k : ℕ) → length bytes ≡ 4 * length numbers → k < length numbers → slice_index numbers k < 2 ^ 32
    → ((j : ℕ) → j < k → number_at bytes (4 * (0 + j)) 4 ≡ slice_index numbers j)
    → (j : ℕ) → j < k + 1 → number_at (with_number bytes (4 * k) 4 (slice_index numbers k)) (4 * (0 + j)) 4 ≡ slice_index numbers j
run_more bytes numbers k long less fits before = below_more _ k
    (λ j under. number_at-other bytes (4 * k) (slice_index numbers k) (omega (arith, long, less)) (4 * (0 + j)) (omega (arith, long, less, under))
    (inl (omega (arith, under))) ∙ before j under)
    (ap (λ p. number_at (with_number bytes (4 * k) 4 (slice_index numbers k)) p 4) (omega arith)
    ∙ number_at-same bytes (4 * k) (slice_index numbers k) (omega (arith, long, less)) fits)

-- numbers written over a part of the bytes
pub stores : (slot : ℕ) (numbers old ws : List ℕ) → 4 * (slot + length numbers) ≤ length old → length ws ≡ 4 * length numbers → IsRun ws 0 numbers →
    Stores slot numbers old (with_bytes old (4 * slot) ws)
stores slot numbers old ws fits long run = record {
  long = length-with_bytes old (4 * slot) ws (omega arith);
  stored = λ k less.
      ap (λ p. number_at (with_bytes old (4 * slot) ws) p 4) (omega arith)
      ∙ (number_at-inside old (4 * slot) ws (4 * (0 + k)) (omega arith) (omega arith) ∙ run k less);
  others = λ q room off. number_at-kept old (4 * slot) ws q (omega arith) room (⊎_elim (λ a. inl a) (λ b. inr (omega arith)) off);
}

-- a part of the bytes that was lent and overwritten
pub written_over : (xs ys : List ℕ) (p n : ℕ) (ws : List ℕ) → ys ≡ xs → p + n ≤ length xs → length ws ≡ n
    → take (length xs) (put_mid p (p + n - p) ys ws ++ drop (length (put_mid p (p + n - p) ys ws)) xs) ≡ with_bytes xs p ws
written_over xs ys p n ws same fits long =
    let back : put_mid p (p + n - p) ys ws ≡ with_bytes xs p ws =
    ap (λ zs. take p zs ++ (ws ++ drop (p + n - p) (drop p zs))) same
    ∙ ap (λ zs. take p xs ++ (ws ++ zs)) (drop-drop (p + n - p) p xs ∙ ap (λ m. drop m xs) (omega (arith, long))) in
    let all = length-with_bytes xs p ws (omega (arith, fits, long)) in
    ap (λ z. take (length xs) (z ++ drop (length z) xs)) back
    ∙ take_at (with_bytes xs p ws) (drop (length (with_bytes xs p ws)) xs) (length xs) all
