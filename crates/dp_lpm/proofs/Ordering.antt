-- The order of rules after one is inserted, replaced or removed.
use Rattle.std.proofs.Common.{◌≡◌, ℕ, zero, suc, ◌+◌, ◌<◌, List, [], ◌∷◌, ◌++◌, length, take, drop, arith}
use Rattle.std.specs.Prelude.{slice_set}
use Rattle.std.specs.List.{AllByRecursion}
use Rattle.dp_model.specs.Prefixes.{Route}
use Rattle.dp_lpm.specs.declared.rule.Rule.{Rule}
use Rattle.dp_lpm.specs.Rules.{rank_of, rule_at, route_of, routes_of, IsOrdered, Parts}
use Rattle.dp_lpm.proofs.Order.{all_at}

-- what holds of all elements, and of one more
pub all_put : (P : Rule → Type 0) (rules : List Rule) (index : ℕ) (r : Rule) → AllByRecursion P rules → P r →
    AllByRecursion P (take index rules ++ r ∷ drop index rules)
all_put P rules zero r all one = (one, all)
all_put P [] (suc index) r all one = (one, tt)
all_put P (x ∷ rules) (suc index) r all one = (all.0, all_put P rules index r all.1 one)

pub all_set : (P : Rule → Type 0) (rules : List Rule) (index : ℕ) (r : Rule) → AllByRecursion P rules → P r → AllByRecursion P (slice_set rules index r)
all_set P [] index r all one = tt
all_set P (x ∷ rules) zero r all one = (one, all.1)
all_set P (x ∷ rules) (suc index) r all one = (all.0, all_set P rules index r all.1 one)

pub all_remove : (P : Rule → Type 0) (rules : List Rule) (index : ℕ) → AllByRecursion P rules → AllByRecursion P (take index rules ++ drop (suc index) rules)
all_remove P [] zero all = tt
all_remove P [] (suc index) all = tt
all_remove P (x ∷ rules) zero all = all.1
all_remove P (x ∷ rules) (suc index) all = (all.0, all_remove P rules index all.1)

pub ordered_put : (rules : List Rule) (index : ℕ) (r : Rule) → IsOrdered rules → Parts (take index rules) (drop index rules) (rank_of r) →
    IsOrdered (take index rules ++ r ∷ drop index rules)
ordered_put rules zero r ordered parts = (parts.upper, ordered)
ordered_put [] (suc index) r ordered parts = (tt, tt)
ordered_put (x ∷ rules) (suc index) r ordered parts = (
  all_put (λ q. rank_of x < rank_of q) rules index r ordered.0 parts.lower.0,
  ordered_put rules index r ordered.1 (record { lower = parts.lower.1; upper = parts.upper }),
)

pub ordered_set : (rules : List Rule) (index : ℕ) (r : Rule) → IsOrdered rules → index < length rules → rank_of (rule_at rules index) ≡ rank_of r →
    IsOrdered (slice_set rules index r)
ordered_set [] index r ordered there same = tt
ordered_set (x ∷ rules) zero r ordered there same = (rw (← same) ordered.0, ordered.1)
ordered_set (x ∷ rules) (suc index) r ordered there same = (
  all_set (λ q. rank_of x < rank_of q) rules index r ordered.0 (rw same at (all_at (λ q. rank_of x < rank_of q) rules index ordered.0 (omega arith))),
  ordered_set rules index r ordered.1 (omega arith) same,
)

pub ordered_remove : (rules : List Rule) (index : ℕ) → IsOrdered rules → IsOrdered (take index rules ++ drop (suc index) rules)
ordered_remove [] zero ordered = tt
ordered_remove [] (suc index) ordered = tt
ordered_remove (x ∷ rules) zero ordered = ordered.1
ordered_remove (x ∷ rules) (suc index) ordered = (all_remove (λ q. rank_of x < rank_of q) rules index ordered.0, ordered_remove rules index ordered.1)

-- ---- lengths

pub length_put : (rules : List Rule) (index : ℕ) (r : Rule) → length (take index rules ++ r ∷ drop index rules) ≡ length rules + 1
length_put rules zero r = omega arith
length_put [] (suc index) r = omega arith
length_put (x ∷ rules) (suc index) r = omega (arith, length_put rules index r)

pub length_remove : (rules : List Rule) (index : ℕ) → index < length rules → length (take index rules ++ drop (suc index) rules) + 1 ≡ length rules
length_remove [] index there = absurd (omega arith)
length_remove (x ∷ rules) zero there = omega arith
length_remove (x ∷ rules) (suc index) there = let rest = length_remove rules index (omega arith) in omega arith

-- ---- rules and the routes that they stand for

pub all_rules : (P : Route → Type 0) (rules : List Rule) → AllByRecursion P (routes_of rules) → AllByRecursion (λ r. P (route_of r)) rules
all_rules P [] all = tt
all_rules P (r ∷ rules) all = (all.0, all_rules P rules all.1)

pub all_routes : (P : Route → Type 0) (rules : List Rule) → AllByRecursion (λ r. P (route_of r)) rules → AllByRecursion P (routes_of rules)
all_routes P [] all = tt
all_routes P (r ∷ rules) all = (all.0, all_routes P rules all.1)
