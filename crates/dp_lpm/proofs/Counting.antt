-- How many deep routes begin with 24 bits, and how many groups they need.
use Rattle.std.proofs.Common.{◌≡◌, ◌≢◌, ℕ, zero, suc, ◌+◌, ◌-◌, ◌/◌, ◌^◌, ◌<◌, ◌≤◌, List, [], ◌∷◌, ◌++◌, length, Some}
use Rattle.std.proofs.Common.{None, refl, ap, arith, ⊎_elim}
use Rattle.std.specs.Prelude.{◌==◌, nat_lt, position, slice_index, slice_set}
use Rattle.std.specs.List.{list_any, position_from}
use Rattle.std.proofs.lemmas.Bool.{cases_eq}
use Rattle.std.proofs.lemmas.Iterator.Adapters.{position_from-zero}
use Rattle.std.proofs.lemmas.List.{map-append}
use Rattle.dp_model.specs.Prefixes.{Route}
use Rattle.dp_lpm.specs.declared.rule.Rule.{Rule}
use Rattle.dp_lpm.specs.Routes.{route_at, is_deep_in, groups_below}
use Rattle.dp_lpm.specs.Rules.{routes_of}
use Rattle.dp_lpm.specs.Kept.{one_if, deep_count, used_count}
use Rattle.dp_lpm.proofs.Splices.{Splice}

-- ---- deep routes

pub deep_count-append : (xs ys : List Route) (i : ℕ) → deep_count (xs ++ ys) i ≡ deep_count xs i + deep_count ys i
deep_count-append [] ys i = omega arith
deep_count-append (x ∷ xs) ys i = omega (arith, deep_count-append xs ys i)

pub spliced_count : (old new : List Rule) (prefix depth i : ℕ) (s : Splice old new prefix depth) →
    deep_count (routes_of new) i + deep_count (routes_of s.out) i ≡ deep_count (routes_of old) i + deep_count (routes_of s.into) i
spliced_count old new prefix depth i s = rw (s.old_is, s.new_is) (simp (map-append, deep_count-append) (omega arith))

-- a route that is found is counted for its first 24 bits
pub found_counts : (routes : List Route) (prefix depth i : ℕ) (q : Route) → route_at routes prefix depth ≡ Some q → 24 < depth → prefix / 2 ^ (depth - 24)
    ≡ i → 1 ≤ deep_count routes i
found_counts [] prefix depth i q e deep is = cc
found_counts (r ∷ routes) prefix depth i q e deep is = grind (arith, found_counts routes prefix depth i q)

-- ---- groups that are needed

any_counts : (routes : List Route) (i : ℕ) → list_any (is_deep_in i) routes ≡ nat_lt 0 (deep_count routes i)
any_counts [] i = refl
any_counts (r ∷ routes) i = grind (arith, any_counts routes i)

pub groups_suc : (n : ℕ) (routes : List Route) → groups_below (suc n) routes ≡ groups_below n routes + one_if (nat_lt 0 (deep_count routes n))
unfolding groups_below
groups_suc n routes = rw any_counts

pub groups_zero : (routes : List Route) → groups_below 0 routes ≡ 0
unfolding groups_below
groups_zero routes = refl

-- the same counts of deep routes need the same groups
pub groups_same : (n : ℕ) (old new : List Route) → ((i : ℕ) → i < n → nat_lt 0 (deep_count new i) ≡ nat_lt 0 (deep_count old i)) →
    groups_below n new ≡ groups_below n old
groups_same zero old new same = simp groups_zero
groups_same (suc n) old new same = simp (groups_suc, same n (omega arith), groups_same n old new (λ i lt. same i (omega arith)))

-- where the counts for other first bits stay, these first bits alone may need one group more or less
pub groups_change : (n first : ℕ) (old new : List Route) → first < n → ((i : ℕ) → i ≢ first → deep_count new i ≡ deep_count old i) →
    groups_below n new + one_if (nat_lt 0 (deep_count old first)) ≡ groups_below n old + one_if (nat_lt 0 (deep_count new first))
groups_change zero first old new lt same = omega arith
groups_change (suc n) first old new lt same = ⊎_elim
    (λ (e : n ≡ first). let before = groups_same n old new (λ i below. ap (nat_lt 0) (same i (λ f. omega arith))) in
    simp (groups_suc, before) (rw e (omega arith)))
    (λ (other : n ≢ first). let before = groups_change n first old new (omega arith) same in simp (groups_suc, same n other) (omega arith))
    (cases_eq n first)

-- ---- groups that are used

pub used_set : (counts : List ℕ) (g n : ℕ) → g < length counts → used_count (slice_set counts g n) + one_if (nat_lt 0 (slice_index counts g))
    ≡ used_count counts + one_if (nat_lt 0 n)
used_set [] g n there = absurd (omega (arith, there))
used_set (c ∷ counts) zero n there = omega arith
used_set (c ∷ counts) (suc g) n there = omega (arith, used_set counts g n (omega (arith, there)))

pub used_few : (counts : List ℕ) → used_count counts ≤ length counts
used_few [] = omega arith
used_few (c ∷ counts) = grind (arith, used_few counts)

-- where no group is free, all are used
used_from : (counts : List ℕ) (i : ℕ) → position_from (λ n. n == 0) i counts ≡ None → used_count counts ≡ length counts
used_from [] i none = refl
used_from (c ∷ counts) i none = grind (arith, used_from counts (i + 1))

pub used_all : (counts : List ℕ) → position (λ n. n == 0) counts ≡ None → used_count counts ≡ length counts
used_all counts none = used_from counts 0 (rw (← position_from-zero) none)

-- ---- bounds

pub deep_count_few : (routes : List Route) (i : ℕ) → deep_count routes i ≤ length routes
deep_count_few [] i = omega arith
deep_count_few (r ∷ routes) i = grind (arith, deep_count_few routes i)
