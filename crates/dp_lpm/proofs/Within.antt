-- The deepest route within a depth, step by step.
use Rattle.std.proofs.Common.{◌≡◌, ℕ, zero, suc, ◌-◌, ◌<◌, List, [], ◌∷◌, take, drop, Some, None, refl, ◌∙◌, ap, arith}
use Rattle.std.specs.Option.{option_or}
use Rattle.dp_model.specs.Prefixes.{Route}
use Rattle.dp_lpm.specs.declared.cell.TableEntry.TheVariants.{Hop}
use Rattle.dp_lpm.specs.declared.rule.Rule.{Rule}
use Rattle.dp_lpm.specs.Routes.{prefix_of, route_at, deepest_within}
use Rattle.dp_lpm.specs.Rules.{rank, rule_at, route_of, routes_of, entry_of, IsFound, IsMissing}
use Rattle.std.proofs.lemmas.List.{take-append-drop}
use Rattle.dp_lpm.proofs.Splices.{here_at, all_below, all_above, at_index}

pub within_zero : (routes : List Route) (ip : ℕ) → deepest_within 0 routes ip ≡ None
unfolding deepest_within
within_zero routes ip = refl

pub within_suc : (depth : ℕ) (routes : List Route) (ip : ℕ) → deepest_within (suc depth) routes ip
    ≡ option_or (route_at routes (prefix_of ip (suc depth)) (suc depth)) (deepest_within depth routes ip)
unfolding deepest_within
within_suc depth routes ip = refl

-- a rule that is found is the route of its prefix and depth
pub found_at : (rules : List Rule) (depth prefix index : ℕ) → IsFound rules depth prefix index → route_at (routes_of rules) prefix depth
    ≡ Some (route_of (rule_at rules index))
found_at rules depth prefix index found =
    let front = all_below (take index rules) (rank depth prefix) found.parts.lower in
    let beyond = all_above (drop (suc index) rules) (rank depth prefix) found.parts.upper in
    ap (λ rs. route_at (routes_of rs) prefix depth) (at_index rules index found.there)
    ∙ rw (here_at (take index rules) (rule_at rules index ∷ []) (drop (suc index) rules) prefix depth front beyond) (grind arith)

pub missing_at : (rules : List Rule) (depth prefix index : ℕ) → IsMissing rules depth prefix index → route_at (routes_of rules) prefix depth ≡ None
missing_at rules depth prefix index missing = rw (← take-append-drop index rules)
    (here_at (take index rules) [] (drop index rules) prefix depth (all_below (take index rules) (rank depth prefix) missing.parts.lower)
    (all_above (drop index rules) (rank depth prefix) missing.parts.upper))

-- the entry where a rule of the depth is found, and where it is not
pub entry_found : (rules : List Rule) (ip depth index : ℕ) → 0 < depth → IsFound rules depth (prefix_of ip depth) index → Hop (rule_at rules index).hop depth
    ≡ entry_of (deepest_within depth (routes_of rules) ip)
entry_found rules ip zero index some found = absurd (omega arith)
entry_found rules ip (suc depth) index some found = rw (within_suc, found_at rules (suc depth) (prefix_of ip (suc depth)) index found) cc

pub entry_missing : (rules : List Rule) (ip depth index : ℕ) → 0 < depth → IsMissing rules depth (prefix_of ip depth) index →
    deepest_within depth (routes_of rules) ip ≡ deepest_within (depth - 1) (routes_of rules) ip
entry_missing rules ip zero index some missing = absurd (omega arith)
entry_missing rules ip (suc depth) index some missing =
    let e : suc depth - 1 ≡ depth = omega arith in rw (e, within_suc, missing_at rules (suc depth) (prefix_of ip (suc depth)) index missing)
