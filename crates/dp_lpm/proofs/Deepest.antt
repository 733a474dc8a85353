-- How a change of the routes of one prefix and depth changes the deepest routes.
use Rattle.std.proofs.Common.{◌≡◌, ◌≢◌, ℕ, zero, suc, ◌-◌, ◌<◌, ◌≤◌, Bool, false, cond, ◌&&◌, List, [], ◌∷◌, Option, Some}
use Rattle.std.proofs.Common.{arith, ⊎_elim}
use Rattle.std.specs.Prelude.{◌==◌, nat_le}
use Rattle.std.specs.Option.{option_or}
use Rattle.std.proofs.lemmas.Bool.{cases_eq}
use Rattle.dp_model.specs.Prefixes.{Route}
use Rattle.dp_lpm.specs.Cells.{depth_of}
use Rattle.dp_lpm.specs.Routes.{prefix_of, route_at, ChangesAt, deepest_within}
use Rattle.dp_lpm.specs.Rules.{entry_of}
use Rattle.dp_lpm.proofs.Within.{within_zero, within_suc}

-- a route that is found has its prefix and depth
pub route_is : (routes : List Route) (prefix depth : ℕ) (q : Route) → route_at routes prefix depth ≡ Some q → (q.depth ≡ depth) × (q.prefix ≡ prefix)
route_is [] prefix depth q e = cc
route_is (r ∷ routes) prefix depth q e = grind (arith, route_is routes prefix depth q)

-- a deepest route within a depth is no deeper
pub depth_within : (depth : ℕ) (routes : List Route) (ip : ℕ) → depth_of (entry_of (deepest_within depth routes ip)) ≤ depth
depth_within zero routes ip = rw within_zero (omega arith)
depth_within (suc depth) routes ip = grind (arith, within_suc, route_is, depth_within depth routes ip)

module _ (old new : List Route) (prefix depth : ℕ) (route : Option Route) (changes : ChangesAt old new prefix depth route) where
  -- where the routes of the searched depths stay, so does the answer
  same_within : (ip n : ℕ) → ((d : ℕ) → d ≤ n → ((d == depth) && (prefix_of ip d == prefix)) ≡ false) → deepest_within n new ip ≡ deepest_within n old ip
  same_within ip zero other = simp within_zero
  same_within ip (suc n) other =
      simp (within_suc, changes.others (prefix_of ip (suc n)) (suc n) (other (suc n) (omega arith)), same_within ip n (λ d le. other d (omega arith)))

  -- a search that does not reach the depth is as before
  pub shallow_same : (ip n : ℕ) → n < depth → deepest_within n new ip ≡ deepest_within n old ip
  shallow_same ip n lt = same_within ip n (λ d le. grind arith)

  -- so is one for an address of another prefix
  pub outside_same : (ip n : ℕ) → prefix_of ip depth ≢ prefix → deepest_within n new ip ≡ deepest_within n old ip
  outside_same ip n other = same_within ip n (λ d le. grind arith)

  -- the new answer: the new route, or else the next one
  abbrev becomes : ℕ → Option Route
  becomes ip = option_or route (deepest_within (depth - 1) old ip)

  -- within the prefix, answers no deeper than that become the new one
  pub inside_becomes : (ip n : ℕ) → prefix_of ip depth ≡ prefix → 1 ≤ depth → depth ≤ n →
      deepest_within n new ip ≡ cond (nat_le (depth_of (entry_of (deepest_within n old ip))) depth) (becomes ip) (deepest_within n old ip)
  inside_becomes ip zero is some le = absurd (omega arith)
  inside_becomes ip (suc n) is some le = ⊎_elim here (λ other. above other (inside_becomes ip n is some (omega arith))) (cases_eq (suc n) depth)
    where
      here : suc n ≡ depth → deepest_within (suc n) new ip ≡ cond (nat_le (depth_of (entry_of (deepest_within (suc n) old ip))) depth) (becomes ip)
          (deepest_within (suc n) old ip)
      here e =
          let less : depth - 1 ≡ n = omega arith in
          let found : route_at new (prefix_of ip (suc n)) (suc n) ≡ route = rw e (rw is changes.here) in
          let within = depth_within (suc n) old ip in
          rw less (rw (within_suc n new ip, found, shallow_same ip n (omega arith)) (grind arith))

      above : suc n ≢ depth →
          deepest_within n new ip ≡ cond (nat_le (depth_of (entry_of (deepest_within n old ip))) depth) (becomes ip) (deepest_within n old ip) →
          deepest_within (suc n) new ip ≡ cond (nat_le (depth_of (entry_of (deepest_within (suc n) old ip))) depth) (becomes ip)
          (deepest_within (suc n) old ip)
      above other before =
          let same = changes.others (prefix_of ip (suc n)) (suc n) (grind arith) in
          rw (within_suc n new ip, within_suc n old ip, same) (grind (arith, route_is old (prefix_of ip (suc n)) (suc n)))

-- entries of a choice
pub entry_cond : (b : Bool) (x y : Option Route) → entry_of (cond b x y) ≡ cond b (entry_of x) (entry_of y)
entry_cond b x y = grind arith
