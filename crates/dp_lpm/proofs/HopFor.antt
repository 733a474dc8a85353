-- The look-up of the definitions returns the hop of the deepest route.
use Rattle.std.proofs.Common.{◌≡◌, ℕ, zero, suc, ◌&&◌, List, [], ◌∷◌, Some, None, refl, arith}
use Rattle.std.specs.Prelude.{◌==◌, find, option_map}
use Rattle.dp_model.specs.Prefixes.{Route, is_match, hop_within, hop_for}
use Rattle.dp_lpm.specs.declared.cell.TableEntry.{TableEntry}
use Rattle.dp_lpm.specs.declared.cell.TableEntry.TheVariants.{Hop}
use Rattle.dp_lpm.specs.Routes.{prefix_of, is_at, route_at, deepest_within}
use Rattle.dp_lpm.specs.Rules.{entry_of}
use Rattle.dp_lpm.proofs.Within.{within_zero, within_suc}

-- the tests of a depth agree
same_test : (ip depth : ℕ) (r : Route) → ((r.depth == depth) && is_match ip r) ≡ is_at (prefix_of ip depth) depth r
same_test ip depth r = grind arith

same_find : (routes : List Route) (ip depth : ℕ) → find (λ r. (r.depth == depth) && is_match ip r) routes ≡ route_at routes (prefix_of ip depth) depth
same_find [] ip depth = refl
same_find (r ∷ routes) ip depth = rw (same_test ip depth r, same_find routes ip depth)

pub hop_is : (routes : List Route) (ip depth : ℕ) → hop_within depth routes ip ≡ option_map (λ r. r.hop) (deepest_within depth routes ip)
hop_is routes ip zero = rw within_zero
hop_is routes ip (suc depth) = rw (same_find routes ip (suc depth), hop_is routes ip depth, within_suc) (grind arith)

-- an entry that is the deepest route's has the hop
pub hop_answered : (routes : List Route) (ip hop depth : ℕ) → Hop hop depth ≡ entry_of (deepest_within 32 routes ip) → hop_for routes ip ≡ Some hop
hop_answered routes ip hop depth is = rw (hop_is routes ip 32) (grind arith)

pub none_answered : (routes : List Route) (ip : ℕ) (e : TableEntry) → ((hop depth : ℕ) → e ≡ Hop hop depth → ⊥) → e ≡ entry_of (deepest_within 32 routes ip) →
    hop_for routes ip ≡ None
none_answered routes ip e other is = rw (hop_is routes ip 32) (grind arith)
