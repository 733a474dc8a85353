-- Internal: there are at most as many live segments as buffers in all pools.
use Rattle.std.proofs.Common.{◌≡◌, ℕ, zero, suc, ◌+◌, ◌<◌, ◌≤◌, List, [], ◌∷◌, length, Option, Some, None, refl, ap, arith, ⊎_elim}
use Rattle.std.specs.Prelude.{sum_by, slice_get, option_map, unwrap_or}
use Rattle.std.specs.List.{AllByRecursion}
use Rattle.std.proofs.lemmas.Bool.{cases_lt}
use Rattle.std.proofs.lemmas.List.Sums.{sum_by-cons}
use Rattle.dp_model.specs.declared.env.PoolSpec.{PoolSpec}
use Rattle.dp_model.specs.Buffers.{Number, same_number, IsNumber}
use Rattle.dp_model.specs.Packets.{Segment, AreOwned}
use Rattle.dp_model.specs.Laws.Cases.{one_if}
use Rattle.dp_model.specs.Laws.Stored.{number_path}
use Rattle.dp_model.specs.Laws.Counts.{tally-cons, has_mbuf, mbufs, same_of, counts_of_owned}

-- ---- sums over the buffers of pools

-- over the first buffers of a pool
over_pool : (Number → ℕ) → ℕ → ℕ → ℕ
over_pool f pool zero = 0
over_pool f pool (suc i) = f (record { pool = pool; index = i }) + over_pool f pool i

-- over all buffers of pools, the first of which has this number
over_pools : (Number → ℕ) → List PoolSpec → ℕ → ℕ
over_pools f [] from = 0
over_pools f (spec ∷ pools) from = over_pool f from spec.count + over_pools f pools (suc from)

pool_le : (f : Number → ℕ) (pool i : ℕ) → ((n : Number) → f n ≤ 1) → over_pool f pool i ≤ i
unfolding over_pool
pool_le f pool zero few = omega arith
pool_le f pool (suc i) few = omega (arith, few (record { pool = pool; index = i }), pool_le f pool i few)

pools_le : (f : Number → ℕ) (pools : List PoolSpec) (from : ℕ) → ((n : Number) → f n ≤ 1) → over_pools f pools from ≤ sum_by (λ p. p.count) pools
unfolding over_pools
pools_le f [] from few = omega arith
pools_le f (spec ∷ pools) from few =
    omega (arith, pool_le f from spec.count few, pools_le f pools (suc from) few, sum_by-cons (λ (p : PoolSpec). p.count) spec pools)

pool_add : (f g h : Number → ℕ) (pool i : ℕ) → ((n : Number) → h n ≡ f n + g n) → over_pool h pool i ≡ over_pool f pool i + over_pool g pool i
unfolding over_pool
pool_add f g h pool zero is = refl
pool_add f g h pool (suc i) is = omega (arith, is (record { pool = pool; index = i }), pool_add f g h pool i is)

pools_add : (f g h : Number → ℕ) (pools : List PoolSpec) (from : ℕ) → ((n : Number) → h n ≡ f n + g n) → over_pools h pools from
    ≡ over_pools f pools from + over_pools g pools from
unfolding over_pools
pools_add f g h [] from is = refl
pools_add f g h (spec ∷ pools) from is = omega (arith, pool_add f g h from spec.count is, pools_add f g h pools (suc from) is)

-- a buffer is counted in its pool
pool_hit : (n : Number) (pool i : ℕ) → n.pool ≡ pool → n.index < i → 1 ≤ over_pool (λ m. one_if (same_number n m)) pool i
unfolding over_pool
pool_hit n pool zero is less = absurd (omega (arith, less))
pool_hit n pool (suc i) is less = ⊎_elim
    (λ lower. omega (arith, pool_hit n pool i is lower))
    (λ upper.
    let here : n ≡ record { pool = pool; index = i } = number_path n (record { pool = pool; index = i }) is (omega (arith, upper, less)) in
    let one : one_if (same_number n (record { pool = pool; index = i })) ≡ 1 = ap one_if (same_of n (record { pool = pool; index = i }) here) in
    omega (arith, one))
    (cases_lt n.index i)

pools_hit : (n : Number) (pools : List PoolSpec) (from k : ℕ) (spec : PoolSpec) → n.pool ≡ from + k → slice_get pools k ≡ Some spec → n.index < spec.count →
    1 ≤ over_pools (λ m. one_if (same_number n m)) pools from
unfolding over_pools
pools_hit n [] from k spec is there less = cc
pools_hit n (first ∷ pools) from zero spec is there less =
    let same : first.count ≡ spec.count = ap (λ o. unwrap_or (option_map (λ (p : PoolSpec). p.count) o) 0) there in
    omega (arith, pool_hit n from first.count (omega (arith, is)) (omega (arith, less, same)))
pools_hit n (first ∷ pools) from (suc k) spec is there less = omega (arith, pools_hit n pools (suc from) k spec (omega (arith, is)) there less)

number_hit : (pools : List PoolSpec) (n : Number) → IsNumber pools n → 1 ≤ over_pools (λ m. one_if (same_number n m)) pools 0
number_hit pools n is = go (slice_get pools n.pool) refl is
  where
    go : (o : Option PoolSpec) → slice_get pools n.pool ≡ o → n.index < unwrap_or (option_map (λ p. p.count) o) 0 →
        1 ≤ over_pools (λ m. one_if (same_number n m)) pools 0
    go None e less = absurd (omega (arith, less))
    go (Some spec) e less = pools_hit n pools 0 n.pool spec (omega arith) e less

-- ---- no more than buffers

each_hits : (pools : List PoolSpec) (live : List Segment) → AllByRecursion (λ s. IsNumber pools s.mbuf) live → length live ≤ over_pools (mbufs live) pools 0
each_hits pools [] all = omega arith
each_hits pools (s ∷ rest) all =
    omega (
      arith,
      number_hit pools s.mbuf all.0,
      each_hits pools rest all.1,
      pools_add (λ m. one_if (same_number s.mbuf m)) (mbufs rest) (mbufs (s ∷ rest)) pools 0 (λ n. tally-cons (has_mbuf n) s rest),
    )

-- there are at most as many live segments as buffers
pub live_few : (pools : List PoolSpec) (live : List Segment) → AreOwned pools live → length live ≤ sum_by (λ p. p.count) pools
live_few pools live owned =
    omega (arith, each_hits pools live owned.mbufs, pools_le (mbufs live) pools 0 (λ n. (counts_of_owned pools live owned).once n))
