-- The deepest route within a depth is the deepest of those that match.
use Rattle.std.proofs.Common.{◌≡◌, ℕ, zero, suc, ◌≤◌, true, List, [], ◌∷◌, map, Option, ◌≢◌, ◌⊎◌}
use Rattle.std.proofs.Common.{Some, None, refl, arith, ⊎_elim}
use Rattle.std.specs.Prelude.{Contains, option_map, IfSome, slice_get}
use Rattle.std.specs.List.{list_any, AllByRecursion, position_or_len}
use Rattle.std.specs.Option.{option_or}
use Rattle.std.proofs.lemmas.Bool.{cases_eq, cases_Bool}
use Rattle.std.proofs.lemmas.Option.{slice_get_within, get_or_from_slice_get}
use Rattle.dp_model.specs.Prefixes.{Route, is_match, hop_for, LooksUp}
use Rattle.dp_lpm.specs.declared.rule.Rule.{Rule}
use Rattle.dp_lpm.specs.Routes.{prefix_of, is_at, route_at, deepest_within, HasSmallHops, IsRoute, AreOnce, IsTableOfRoutes}
use Rattle.dp_lpm.specs.Rules.{rank, route_of, routes_of, entry_of, IsOrdered}
use Rattle.dp_lpm.specs.Cells.{depth_of}
use Rattle.dp_lpm.proofs.Within.{within_zero, within_suc}
use Rattle.dp_lpm.specs.declared.ruled_table.RuledTable.{RuledTable}
use Rattle.dp_lpm.specs.Kept.{routes_in, shown, IsKept}
use Rattle.std.proofs.lemmas.List.{length-map}
use Rattle.std.proofs.lemmas.List.Folds.{find_at, Any-from_list_any}
use Rattle.dp_lpm.proofs.Counting.{used_few}
use Rattle.dp_lpm.proofs.Deepest.{route_is}
use Rattle.dp_lpm.proofs.HopFor.{hop_is}
use Rattle.dp_lpm.proofs.Splices.{all_above, misses_none}

-- a route that is found is in the list
found_contains : (routes : List Route) (prefix depth : ℕ) (q : Route) → route_at routes prefix depth ≡ Some q → Contains routes q
found_contains routes prefix depth q e =
    let k = position_or_len (is_at prefix depth) routes in
    let there : slice_get routes k ≡ Some q = rw (← find_at) e in
    (k, slice_get_within routes k q there, get_or_from_slice_get routes k q q there)

-- where one is in the list, one is found
contains_found : (routes : List Route) (prefix depth : ℕ) (o : Route) → Contains routes o → is_at prefix depth o ≡ true →
    (q : Route) × (route_at routes prefix depth ≡ Some q)
contains_found [] prefix depth o (k, lt, is) here = absurd (omega arith)
contains_found (r ∷ routes) prefix depth o (zero, lt, is) here = (r, grind arith)
contains_found (r ∷ routes) prefix depth o (suc k, lt, is) here = ⊎_elim
    (λ yes. (r, rw yes))
    (λ no. let (q, found) = contains_found routes prefix depth o (k, omega arith, is) here in (q, rw no found))
    (cases_Bool (is_at prefix depth r))

all_contains : (P : Route → Type 0) (routes : List Route) (o : Route) → AllByRecursion P routes → Contains routes o → P o
all_contains P [] o all (k, lt, is) = absurd (omega arith)
all_contains P (r ∷ routes) o all (zero, lt, is) = rw is at all.0
all_contains P (r ∷ routes) o all (suc k, lt, is) = all_contains P routes o all.1 (k, omega arith, is)

-- the deepest is in the list, and matches
deepest_there : (n : ℕ) (routes : List Route) (ip : ℕ) (q : Route) → deepest_within n routes ip ≡ Some q → Contains routes q × (is_match ip q ≡ true)
deepest_there zero routes ip q e = let none = within_zero routes ip in absurd cc
deepest_there (suc n) routes ip q e = ⊎_elim
    (λ here. (found_contains routes (prefix_of ip (suc n)) (suc n) q here, grind (arith, route_is routes (prefix_of ip (suc n)) (suc n) q here)))
    (λ below. deepest_there n routes ip q below)
    (either (route_at routes (prefix_of ip (suc n)) (suc n)) (deepest_within n routes ip) (rw within_suc at e))
  where
    either : (o p : Option Route) → option_or o p ≡ Some q → (o ≡ Some q) ⊎ (p ≡ Some q)
    either o p is = grind arith

pub deepest_route : (n : ℕ) (routes : List Route) (ip : ℕ) (q : Route) → AllByRecursion IsRoute routes → deepest_within n routes ip ≡ Some q → IsRoute q
deepest_route n routes ip q all found = all_contains IsRoute routes q all (deepest_there n routes ip q found).0

-- no route that matches is deeper
deepest_beats : (n : ℕ) (routes : List Route) (ip : ℕ) (o : Route) → Contains routes o → is_match ip o ≡ true → 1 ≤ o.depth → o.depth ≤ n →
    o.depth ≤ depth_of (entry_of (deepest_within n routes ip))
deepest_beats zero routes ip o there fits some le = omega arith
deepest_beats (suc n) routes ip o there fits some le = ⊎_elim
    (λ (e : o.depth ≡ suc n). let (q, found) = contains_found routes (prefix_of ip (suc n)) (suc n) o there (grind arith) in
    rw (within_suc, found) (omega (arith, route_is routes (prefix_of ip (suc n)) (suc n) q found)))
    (λ (other : o.depth ≢ suc n). let rest = deepest_beats n routes ip o there fits some (omega arith) in
    rw within_suc (grind (arith, route_is routes (prefix_of ip (suc n)) (suc n))))
    (cases_eq o.depth (suc n))

-- the look-up returns the hop of the deepest route that matches
pub looks_up : (routes : List Route) (ip : ℕ) → AllByRecursion IsRoute routes → LooksUp routes ip (hop_for routes ip)
looks_up routes ip all = rw (hop_is routes ip 32) (go (deepest_within 32 routes ip) refl)
  where
    beats : (o : Route) → Contains routes o → is_match ip o ≡ true → (1 ≤ o.depth) × (o.depth ≤ depth_of (entry_of (deepest_within 32 routes ip)))
    beats o there fits = let is = all_contains IsRoute routes o all there in (is.some, deepest_beats 32 routes ip o there fits is.some is.most)

    go : (o : Option Route) → deepest_within 32 routes ip ≡ o → LooksUp routes ip (option_map (λ r. r.hop) o)
    go None none = ⊎_elim
        (λ some. let (k, o, lt, is, fits) = Any-from_list_any (is_match ip) routes some in absurd (grind (arith, beats o (k, lt, is) fits)))
        (λ no. no)
        (cases_Bool (list_any (is_match ip) routes))
    go (Some r) found =
        let (there, fits) = deepest_there 32 routes ip r found in
        (r, record { there = there; fits = fits; deepest = λ other there fits. grind (arith, beats other there fits) }, refl)

-- rules in order have distinct prefixes and depths
pub ordered_once : (rules : List Rule) → IsOrdered rules → AreOnce (routes_of rules)
ordered_once [] ordered = tt
ordered_once (r ∷ rules) ordered = (misses_none rules r.prefix r.depth (all_above rules (rank r.depth r.prefix) ordered.0), ordered_once rules ordered.1)

-- what a caller may know of a table
pub is_table : (s : RuledTable) → IsKept s → IsTableOfRoutes (shown s)
is_table s kept = record {
  each = kept.rules.each;
  once = ordered_once s.rules.items kept.rules.order;
  few = omega (arith, length-map s.rules.items route_of, kept.rules.few);
  groups = omega (arith, kept.groups.needed, used_few s.table.counts.items);
}

pub low_hops : (routes : List Route) → AllByRecursion IsRoute routes → AllByRecursion (λ route. route.hop ≤ 16777215) routes
low_hops [] all = tt
low_hops (r ∷ routes) all = (all.0.hop, low_hops routes all.1)

-- nor in any of several tables
pub small_hops : (tables : List RuledTable) → AllByRecursion IsKept tables → AllByRecursion HasSmallHops (map shown tables)
small_hops [] all = tt
small_hops (s ∷ tables) all = (low_hops (routes_in s) all.0.rules.each, small_hops tables all.1)

-- no hop that a look-up returns is greater
pub low_hop : (routes : List Route) (ip : ℕ) → AllByRecursion IsRoute routes → IfSome (hop_for routes ip) (λ hop. hop ≤ 16777215)
low_hop routes ip all = rw (hop_is routes ip 32) (go (deepest_within 32 routes ip) refl)
  where
    go : (o : Option Route) → deepest_within 32 routes ip ≡ o → IfSome (option_map (λ r. r.hop) o) (λ hop. hop ≤ 16777215)
    go None none = tt
    go (Some r) found = (deepest_route 32 routes ip r all found).hop
