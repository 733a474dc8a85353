-- Removing a rule.
use Rattle.std.proofs.Common.{◌≡◌, ◌≢◌, ℕ, suc, ◌+◌, ◌-◌, ◌*◌, ◌/◌, ◌%◌, ◌^◌, ◌<◌, ◌≤◌, List, ◌++◌, length, take, drop, None, sym, ◌∙◌, ap, arith, add-zero}
use Rattle.std.specs.Prelude.{vec_capacity}
use Rattle.std.proofs.lemmas.List.{length-map}
use Rattle.dp_model.specs.Prefixes.{Route}
use Rattle.dp_lpm.specs.declared.rule.Rule.{Rule}
use Rattle.dp_lpm.specs.declared.ruled_table.RuledTable.{RuledTable}
use Rattle.dp_lpm.specs.Cells.{at}
use Rattle.dp_lpm.specs.Routes.{IsRoute, Drops, ChangesAt, is_deep_in}
use Rattle.dp_lpm.specs.Rules.{rule_at, route_of, routes_of, IsFound}
use Rattle.dp_lpm.specs.Tables.{entry_for, group_at, CanClose, Closed}
use Rattle.dp_lpm.specs.Kept.{one_if, deep_count, routes_in, shown, Keeps, IsKept, first_of}
use Rattle.dp_lpm.proofs.Splices.{remove_splice, splice_changes}
use Rattle.dp_lpm.proofs.Ordering.{all_remove, ordered_remove, length_remove, all_rules, all_routes}
use Rattle.dp_lpm.proofs.Counting.{spliced_count}
use Rattle.dp_lpm.proofs.Grouping.{grouped_same, grouped_closed}
use Rattle.dp_lpm.proofs.Growing.{deep_yes, deep_other, deep_no}
use Rattle.dp_lpm.proofs.Entries.{either_group, entry_grouped}
use Rattle.dp_lpm.proofs.Blocks.{same_block}

module _ (old : RuledTable) (index prefix depth : ℕ) (found : IsFound old.rules.items depth prefix index) where
  abbrev pub left : List Rule
  left = take index old.rules.items ++ drop (suc index) old.rules.items

  -- the routes change at the rule's prefix and depth only
  pub removed_changes : ChangesAt (routes_in old) (routes_of left) prefix depth None
  removed_changes = splice_changes old.rules.items left prefix depth (remove_splice old.rules.items index prefix depth found)

  pub removed_count : (i : ℕ) → deep_count (routes_of left) i + one_if (is_deep_in i (route_of (rule_at old.rules.items index))) ≡ deep_count (routes_in old) i
  removed_count i = omega (arith, spliced_count old.rules.items left prefix depth i (remove_splice old.rules.items index prefix depth found))

  -- the rule is out, and the entries are as before
  pub removed : (new : RuledTable) → IsKept old → new.rules.items ≡ left → vec_capacity new.rules ≡ vec_capacity old.rules → new.max_rules ≡ old.max_rules →
      new.table ≡ old.table → Keeps (routes_in old) (routes_in old) new
  removed new kept rules room max table = record {
    rules = simp (rules, max, room) (record {
      order = ordered_remove old.rules.items index kept.rules.order;
      each = all_routes IsRoute left (all_remove (λ q. IsRoute (route_of q)) old.rules.items index (all_rules IsRoute old.rules.items kept.rules.each));
      few = omega (arith, length_remove old.rules.items index found.there, kept.rules.few);
      most = kept.rules.most;
      room = kept.rules.room;
    });
    table = rw table kept.table;
    answers = rw table kept.answers;
    groups = rw table kept.groups;
  }

  pub dropped : (new : RuledTable) → new.rules.items ≡ left → new.max_rules ≡ old.max_rules → length new.table.counts.items ≡ length old.table.counts.items →
      Drops (shown old) (shown new) prefix depth
  dropped new rules max groups = record {
    changes = rw rules removed_changes;
    count = omega (
      arith,
      length-map new.rules.items route_of,
      ap length rules,
      length_remove old.rules.items index found.there,
      length-map old.rules.items route_of,
    );
    max_rules = max;
    groups = groups;
  }

  -- the deep routes of first bits
  pub left_shallow : (i : ℕ) → depth ≤ 24 → deep_count (routes_of left) i ≡ deep_count (routes_in old) i
  left_shallow i shallow = omega (arith, removed_count i, deep_no (route_of (rule_at old.rules.items index)) i (omega (arith, found.depth_is)))

  first_is : 24 < depth → first_of (route_of (rule_at old.rules.items index)) ≡ prefix / 2 ^ (depth - 24)
  first_is deep = rw (found.depth_is, found.prefix_is)

  pub left_here : (first : ℕ) → 24 < depth → prefix / 2 ^ (depth - 24) ≡ first → deep_count (routes_in old) first ≡ deep_count (routes_of left) first + 1
  left_here first deep is =
      let one : one_if (is_deep_in first (route_of (rule_at old.rules.items index))) ≡ 1 =
      rw (← is, ← first_is deep) (deep_yes (route_of (rule_at old.rules.items index)) (omega (arith, found.depth_is))) in
      omega (arith, removed_count first, one)

  pub left_others : (first i : ℕ) → 24 < depth → prefix / 2 ^ (depth - 24) ≡ first → i ≢ first → deep_count (routes_of left) i ≡ deep_count (routes_in old) i
  left_others first i deep is other =
      let no = deep_other (route_of (rule_at old.rules.items index)) i (omega (arith, found.depth_is)) (rw (first_is deep, is) other) in
      omega (arith, removed_count i, no)

-- the groups may be closed: if the last deep route of first bits is out, their entries are all the same
pub can_close : (s : RuledTable) (counted : List Route) (first : ℕ) → Keeps (routes_in s) counted s → deep_count counted first
    ≡ deep_count (routes_in s) first + 1 → CanClose first s.table
can_close s counted first kept more = either_group (group_at s.table first)
    (λ none. absurd (omega (arith, kept.groups.plain first none, more)))
    (λ g named. record {
      group = g;
      named = named;
      some = kept.table.used first g named;
      even = λ one j lt.
          let none : deep_count (routes_in s) first ≡ 0 = omega (arith, kept.groups.grouped first g named) in
          let here : (first * 256 + j) / 256 ≡ first = omega arith in
          let low : (first * 256 + j) % 256 ≡ j = omega arith in
          let start : first * 256 / 256 ≡ first = omega arith in
          let zero_low : first * 256 % 256 ≡ 0 = omega arith in
          let mine : entry_for s.table (first * 256 + j) ≡ at s.table.cells.items (g * 256 + j) =
          rw (entry_grouped s.table (first * 256 + j) g (rw here named), low) in
          let its : entry_for s.table (first * 256) ≡ at s.table.cells.items (g * 256) =
          rw (entry_grouped s.table (first * 256) g (rw start named), zero_low, add-zero) in
          let same = same_block (routes_in s) (first * 256 + j) (first * 256) 32 (omega arith) (here ∙ sym start) (rw here none) in
          rw (← mine, ← its, kept.answers (first * 256 + j), kept.answers (first * 256), same);
    })

-- after closing, the groups follow from the routes that remain
pub closed_keeps : (s new : RuledTable) (counted : List Route) (first : ℕ) → Keeps (routes_in s) counted s → deep_count counted first
    ≡ deep_count (routes_in s) first + 1 → ((i : ℕ) → i ≢ first → deep_count (routes_in s) i ≡ deep_count counted i) → first < 16777216 →
    Closed first s.table new.table → new.rules ≡ s.rules → new.max_rules ≡ s.max_rules → IsKept new
closed_keeps s new counted first kept more others small closed rules max = record {
  rules = rw (rules, max) kept.rules;
  table = closed.table;
  answers = λ ip. rw (closed.same ip, rules) (kept.answers ip);
  groups = rw rules (grouped_closed s.table new.table counted (routes_in s) first kept.table kept.groups closed small more others);
}

-- where no deep route was removed, the groups are as before
pub shallow_keeps : (s : RuledTable) (counted : List Route) → Keeps (routes_in s) counted s → ((i : ℕ) → deep_count (routes_in s) i ≡ deep_count counted i) →
    IsKept s
shallow_keeps s counted kept same = record {
  rules = kept.rules;
  table = kept.table;
  answers = kept.answers;
  groups = grouped_same s.table counted (routes_in s) kept.groups same;
}
