-- Pools stay pools, and how they read after a write.
use Rattle.std.proofs.Common.{◌≡◌, ℕ, zero, suc, ◌+◌, ◌<◌, ◌≤◌, Bool, List, [], ◌∷◌, ◌++◌, length, take, drop, Some, arith}
use Rattle.std.proofs.Common.{⊎_elim, get_or, set}
use Rattle.std.specs.Prelude.{count_by, not, slice_get, replicate}
use Rattle.std.proofs.lemmas.Bool.{cases_eq}
use Rattle.std.proofs.lemmas.List.{length-set, get_or-set_same, get_or-set_other}
use Rattle.std.proofs.lemmas.List.Sums.{sum_by-cons}
use Rattle.std.proofs.lemmas.Option.{same_Some}
use Rattle.dp_model.specs.Buffers.{overwritten}
use Rattle.dp_pool.specs.Pools.{PoolView, IsPool, object_in, with_written}
use Rattle.dp_model.specs.Laws.Cases.{one_if}
use Rattle.dp_model.specs.Laws.Stored.{length_overwritten}

-- ---- how many are in

pub count_set : (row : List Bool) (i : ℕ) (a b : Bool) → slice_get row i ≡ Some a → count_by not (set row i b) + one_if (not a)
    ≡ count_by not row + one_if (not b)
count_set [] i a b h = cc
count_set (x ∷ row) zero a b h =
    let e : one_if (not x) ≡ one_if (not a) = rw (same_Some x a h) in
    omega (arith, sum_by-cons (λ s. one_if (not s)) x row, sum_by-cons (λ s. one_if (not s)) b row)
count_set (x ∷ row) (suc i) a b h =
    omega (arith, count_set row i a b h, sum_by-cons (λ s. one_if (not s)) x row, sum_by-cons (λ s. one_if (not s)) x (set row i b))

-- ---- bytes

abbrev pub Small : List ℕ → Type 0
Small xs = (k : ℕ) → get_or xs k 0 < 256

small_append : (xs ys : List ℕ) → Small xs → Small ys → Small (xs ++ ys)
small_append [] ys hx hy k = hy k
small_append (x ∷ xs) ys hx hy zero = hx 0
small_append (x ∷ xs) ys hx hy (suc k) = small_append xs ys (λ j. hx (suc j)) hy k

small_take : (n : ℕ) (xs : List ℕ) → Small xs → Small (take n xs)
small_take zero xs h k = omega arith
small_take (suc n) [] h k = omega arith
small_take (suc n) (x ∷ xs) h zero = h 0
small_take (suc n) (x ∷ xs) h (suc k) = small_take n xs (λ j. h (suc j)) k

pub small_drop : (n : ℕ) (xs : List ℕ) → Small xs → Small (drop n xs)
small_drop zero xs h k = h k
small_drop (suc n) [] h k = omega arith
small_drop (suc n) (x ∷ xs) h k = small_drop n xs (λ j. h (suc j)) k

pub small_zeros : (n : ℕ) → Small (replicate n 0)
small_zeros zero k = omega arith
small_zeros (suc n) zero = omega arith
small_zeros (suc n) (suc k) = small_zeros n k

pub small_overwritten : (old : List ℕ) (at : ℕ) (new : List ℕ) → Small old → Small new → Small (overwritten old at new)
small_overwritten old at new ho hn =
    small_append (take at old) (new ++ drop (at + length new) old) (small_take at old ho)
    (small_append new (drop (at + length new) old) hn (small_drop (at + length new) old ho))

-- ---- pools stay pools

-- the pool with an object in or out, and another number of cached indexes
abbrev pub with_out : PoolView → ℕ → Bool → ℕ → PoolView
with_out p i b cached = record p { out = set p.out i b; cached = cached }

pub pool_out : (p : PoolView) (i : ℕ) (b : Bool) (cached : ℕ) → IsPool p → IsPool (with_out p i b cached)
pool_out p i b cached h = record {
  some = h.some;
  count = h.count;
  out = rw length-set h.out;
  sizes = h.sizes;
  bytes = h.bytes;
  size = h.size;
  cache = h.cache;
}

pub pool_written : (p : PoolView) (i at : ℕ) (new : List ℕ) → IsPool p → i < length p.objects → at + length new ≤ p.size → Small new →
    IsPool (with_written p i at new)
pool_written p i at new h there fits small =
    let now : List ℕ = overwritten (object_in p i) at new in
    let size : length (object_in p i) ≡ p.size = h.sizes i there in
    record {
      some = omega (arith, h.some, length-set p.objects i now);
      count = omega (arith, h.count, length-set p.objects i now);
      out = rw length-set h.out;
      sizes = λ j b. ⊎_elim
          (λ e. rw e (rw (get_or-set_same p.objects i now [] there, length_overwritten (object_in p i) new at (omega arith)) size))
          (λ ne. rw (get_or-set_other p.objects i j now [] ne) (h.sizes j (omega (arith, length-set p.objects i now))))
          (cases_eq j i);
      bytes = λ j. ⊎_elim
          (λ e. rw e (rw (get_or-set_same p.objects i now [] there) (small_overwritten (object_in p i) at new (h.bytes i) small)))
          (λ ne. rw (get_or-set_other p.objects i j now [] ne) (h.bytes j))
          (cases_eq j i);
      size = h.size;
      cache = (h.cache.0, omega (arith, h.cache.1, length-set p.objects i now));
    }

-- ---- lists
