-- Replacing the rule of a prefix and depth.
use Rattle.std.proofs.Common.{◌≡◌, ℕ, length, Result, Some, None, refl, ap, arith, length-set}
use Rattle.std.specs.Prelude.{slice_set, vec_capacity, MatchResult}
use Rattle.std.proofs.lemmas.List.{length-map}
use Rattle.dp_lpm.specs.declared.error.LpmError.{LpmError}
use Rattle.dp_lpm.specs.declared.rule.Rule.{Rule}
use Rattle.dp_lpm.specs.declared.ruled_table.RuledTable.{RuledTable}
use Rattle.dp_lpm.specs.Faults.{route_fault, new_fault}
use Rattle.dp_lpm.specs.Routes.{IsRoute, route_at, is_deep_in}
use Rattle.dp_lpm.specs.Rules.{rule_at, route_of, IsFound, IsMissing}
use Rattle.dp_lpm.specs.Tables.{group_at}
use Rattle.dp_lpm.specs.Kept.{one_if, deep_count, routes_in, shown, IsKept, first_of, TakesIn}
use Rattle.dp_lpm.proofs.Splices.{replace_splice, splice_changes}
use Rattle.dp_lpm.proofs.Within.{found_at, missing_at}
use Rattle.dp_lpm.proofs.Ordering.{all_set, ordered_set, all_rules, all_routes}
use Rattle.dp_lpm.proofs.Counting.{spliced_count, found_counts}
use Rattle.dp_lpm.proofs.Grouping.{grouped_same}
use Rattle.dp_lpm.proofs.Growing.{found_route}
use Rattle.dp_lpm.proofs.Entries.{either_group}

pub replaced : (old new : RuledTable) (index : ℕ) (r : Rule) → IsKept old → IsRoute (route_of r) → IsFound old.rules.items r.depth r.prefix index →
    new.rules.items ≡ slice_set old.rules.items index r → vec_capacity new.rules ≡ vec_capacity old.rules → new.max_rules ≡ old.max_rules →
    new.table ≡ old.table → TakesIn old new (route_of r) × (route_fault (shown old) (route_of r) ≡ None)
replaced old new index r kept is found rules room max table = (
  record {
    kept = record {
      rules = simp (rules, max, room) (record {
        order = ordered_set old.rules.items index r kept.rules.order found.there (omega (arith, found.depth_is, found.prefix_is));
        each = all_routes IsRoute (slice_set old.rules.items index r)
            (all_set (λ q. IsRoute (route_of q)) old.rules.items index r (all_rules IsRoute old.rules.items kept.rules.each) is);
        few = rw length-set kept.rules.few;
        most = kept.rules.most;
        room = kept.rules.room;
      });
      table = rw table kept.table;
      answers = rw table kept.answers;
      groups = rw table (grouped_same old.table (routes_in old) (routes_in new) kept.groups counted);
    };
    puts = record {
      changes = rw rules (rw (found_route r) at (splice_changes old.rules.items (slice_set old.rules.items index r) r.prefix r.depth
          (replace_splice old.rules.items index r found)));
      count = rw here (omega (
        arith,
        length-map new.rules.items route_of,
        length-map old.rules.items route_of,
        ap length rules,
        length-set old.rules.items index r,
      ));
      max_rules = max;
      groups = rw table;
    };
    group = λ deep. rw table (either_group (group_at old.table (first_of (route_of r)))
        (λ none. absurd (omega (
          arith,
          kept.groups.plain (first_of (route_of r)) none,
          found_counts (routes_in old) r.prefix r.depth (first_of (route_of r)) _ here deep refl,
        )))
        (λ g named. (g, named)));
  },
  rw here,
)
  where
    here : route_at (routes_in old) r.prefix r.depth ≡ Some (route_of (rule_at old.rules.items index))
    here = found_at old.rules.items r.depth r.prefix index found

    counted : (i : ℕ) → deep_count (routes_in new) i ≡ deep_count (routes_in old) i
    counted i =
        let e = spliced_count old.rules.items (slice_set old.rules.items index r) r.prefix r.depth i (replace_splice old.rules.items index r found) in
        let same : one_if (is_deep_in i (route_of (rule_at old.rules.items index))) ≡ one_if (is_deep_in i (route_of r)) =
        rw (found.depth_is, found.prefix_is) in
        rw rules (omega (arith, e, same))

-- where there is none to replace, the outcome is that of a new rule
pub new_outcome : (old new : RuledTable) (index : ℕ) (r : Rule) → IsMissing old.rules.items r.depth r.prefix index → (result : Result (Unit {0}) LpmError) →
    MatchResult result (λ _. TakesIn old new (route_of r) × (new_fault (shown old) (route_of r) ≡ None)) (λ e. (new_fault (shown old) (route_of r) ≡ Some e)
    × (new ≡ old)) → MatchResult result (λ _. TakesIn old new (route_of r) × (route_fault (shown old) (route_of r) ≡ None))
    (λ e. (route_fault (shown old) (route_of r) ≡ Some e) × (new ≡ old))
new_outcome old new index r missing result outcome = rw (missing_at old.rules.items r.depth r.prefix index missing) outcome
