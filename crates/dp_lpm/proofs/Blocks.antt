-- Addresses that no route distinguishes have the same deepest route.
use Rattle.std.proofs.Common.{◌≡◌, ℕ, zero, suc, ◌/◌, ◌<◌, ◌≤◌, List, None, arith, ⊎_elim}
use Rattle.std.proofs.lemmas.Bool.{cases_lt}
use Rattle.dp_model.specs.Prefixes.{Route}
use Rattle.dp_lpm.specs.Routes.{prefix_of, route_at, deepest_within}
use Rattle.dp_lpm.specs.Kept.{deep_count}
use Rattle.dp_lpm.proofs.Within.{within_zero, within_suc}
use Rattle.dp_lpm.proofs.Ranges.{shorter, deep_first}
use Rattle.dp_lpm.proofs.Counting.{found_counts}

-- addresses of one prefix, in a search that goes no deeper
pub same_prefix : (routes : List Route) (ip other depth n : ℕ) → depth ≤ 32 → n ≤ depth → prefix_of ip depth ≡ prefix_of other depth →
    deepest_within n routes ip ≡ deepest_within n routes other
same_prefix routes ip other depth zero most le same = simp within_zero
same_prefix routes ip other depth (suc n) most le same =
    let e : prefix_of ip (suc n) ≡ prefix_of other (suc n) = rw (shorter ip depth (suc n) le most, shorter other depth (suc n) le most, same) in
    simp (within_suc, e, same_prefix routes ip other depth n most (omega arith) same)

-- a depth that no route of the first bits has
none_deep : (routes : List Route) (ip depth : ℕ) → 24 < depth → depth ≤ 32 → deep_count routes (ip / 256) ≡ 0 → route_at routes (prefix_of ip depth) depth
    ≡ None
none_deep routes ip depth deep most none = grind (arith, found_counts routes (prefix_of ip depth) depth (ip / 256), deep_first ip depth deep most)

-- addresses with the same 24 bits, where no route is deeper
pub same_block : (routes : List Route) (ip other n : ℕ) → n ≤ 32 → ip / 256 ≡ other / 256 → deep_count routes (ip / 256) ≡ 0 → deepest_within n routes ip
    ≡ deepest_within n routes other
same_block routes ip other zero most same none = simp within_zero
same_block routes ip other (suc n) most same none =
    let here : route_at routes (prefix_of ip (suc n)) (suc n) ≡ route_at routes (prefix_of other (suc n)) (suc n) = ⊎_elim
    (λ (deep : 24 < suc n). rw (none_deep routes ip (suc n) deep most none, none_deep routes other (suc n) deep most (rw (← same) none)))
    (λ (le : suc n ≤ 24). rw (shorter ip 24 (suc n) le (omega arith), shorter other 24 (suc n) le (omega arith)) (rw same))
    (cases_lt 24 (suc n)) in
    simp (within_suc, here, same_block routes ip other n (omega arith) same none)
