-- Deleting a rule: its entries are overwritten, and its group is closed.
use Rattle.std.proofs.Common.{◌≡◌, ◌≢◌, ℕ, suc, ◌+◌, ◌-◌, ◌/◌, ◌^◌, ◌<◌, ◌≤◌, List, ◌++◌, take, drop}
use Rattle.std.proofs.Common.{Option, Some, None, refl, ◌∙◌, arith, length-set}
use Rattle.std.specs.Prelude.{vec_capacity}
use Rattle.std.specs.List.{AllByRecursion}
use Rattle.std.proofs.lemmas.Bool.{le-ltb}
use Rattle.dp_model.specs.Prefixes.{Route}
use Rattle.dp_lpm.specs.declared.cell.TableEntry.{TableEntry}
use Rattle.dp_lpm.specs.declared.error.LpmError.TheVariants.{NoRule}
use Rattle.dp_lpm.specs.declared.ruled_table.RuledTable.{RuledTable}
use Rattle.dp_lpm.specs.Cells.{IsStorable}
use Rattle.dp_lpm.specs.Faults.{delete_fault}
use Rattle.dp_lpm.specs.Routes.{IsRoute, Drops, prefix_of, deepest_within}
use Rattle.dp_lpm.specs.Rules.{entry_of, IsFound, IsMissing}
use Rattle.dp_lpm.specs.Tables.{group_at, start_of, Overwritten, Closed}
use Rattle.dp_lpm.specs.Kept.{deep_count, routes_in, shown, Keeps, IsKept, TakesOut}
use Rattle.dp_lpm.proofs.Within.{found_at, missing_at}
use Rattle.dp_lpm.proofs.Ranges.{deep_first}
use Rattle.dp_lpm.proofs.Counting.{found_counts}
use Rattle.dp_lpm.proofs.Entries.{either_group}
use Rattle.dp_lpm.proofs.Answering.{overwritten_keeps}
use Rattle.dp_lpm.proofs.Looking.{deepest_route}
use Rattle.dp_lpm.proofs.Shrinking.{removed, removed_changes, left_shallow, left_here, left_others, dropped}

-- ---- entries that four bytes can encode

pub entry_fits : (routes : List Route) (n ip : ℕ) → AllByRecursion IsRoute routes → IsStorable (entry_of (deepest_within n routes ip))
entry_fits routes n ip all = go (deepest_within n routes ip) refl
  where
    go : (o : Option Route) → deepest_within n routes ip ≡ o → IsStorable (entry_of o)
    go None none = tt
    go (Some q) found = let is = deepest_route n routes ip q all found in (omega (arith, is.hop), is.some, is.most)

-- ---- why `delete` refuses

pub delete_none : (s : RuledTable) (ip depth index : ℕ) → 1 ≤ depth → depth ≤ 32 → IsMissing s.rules.items depth (prefix_of ip depth) index →
    delete_fault (shown s) ip depth ≡ Some NoRule
delete_none s ip depth index some most missing =
    rw (le-ltb depth 1 some, le-ltb 32 depth most, missing_at s.rules.items depth (prefix_of ip depth) index missing)

pub delete_found : (s : RuledTable) (ip depth index : ℕ) → 1 ≤ depth → depth ≤ 32 → IsFound s.rules.items depth (prefix_of ip depth) index →
    delete_fault (shown s) ip depth ≡ None
delete_found s ip depth index some most found =
    rw (le-ltb depth 1 some, le-ltb 32 depth most, found_at s.rules.items depth (prefix_of ip depth) index found)

-- a deep rule has a group
pub deep_group : (s : RuledTable) (ip depth index : ℕ) → IsKept s → depth ≤ 32 → IsFound s.rules.items depth (prefix_of ip depth) index → 24 < depth →
    (g : ℕ) × (group_at s.table (ip / 256) ≡ Some g)
deep_group s ip depth index kept most found deep = either_group (group_at s.table (ip / 256))
    (λ none. absurd (omega (
      arith,
      kept.groups.plain (ip / 256) none,
      found_counts (routes_in s) (prefix_of ip depth) depth (ip / 256) _
          (found_at s.rules.items depth (prefix_of ip depth) index found) deep (deep_first ip depth deep most),
    )))
    (λ g named. (g, named))

-- ---- what remains

module _ (old mid new : RuledTable) (index ip depth : ℕ) (to : TableEntry) (kept : IsKept old)
    (found : IsFound old.rules.items depth (prefix_of ip depth) index)
    (some : 1 ≤ depth) (most : depth ≤ 32) (rules : mid.rules.items ≡ take index old.rules.items
    ++ drop (suc index) old.rules.items) (room : vec_capacity mid.rules ≡ vec_capacity old.rules) (max : mid.max_rules ≡ old.max_rules) (table : mid.table
    ≡ old.table) (next : to ≡ entry_of (deepest_within (depth - 1) (routes_in old) ip))
    (overwritten : Overwritten (start_of ip depth) (2 ^ (32 - depth)) depth to mid.table new.table) (same_rules : new.rules ≡ mid.rules)
    (same_max : new.max_rules
    ≡ mid.max_rules) where
  pub now_left : new.rules.items ≡ take index old.rules.items ++ drop (suc index) old.rules.items
  now_left = rw same_rules rules

  pub deleted : Keeps (routes_in new) (routes_in old) new
  deleted = overwritten_keeps (routes_in old) (routes_in old) mid new ip depth None
      (removed old index (prefix_of ip depth) depth found mid kept rules room max table)
      (rw rules (removed_changes old index (prefix_of ip depth) depth found)) some most (rw next at overwritten) same_rules same_max

  pub count_shallow : (i : ℕ) → depth ≤ 24 → deep_count (routes_in new) i ≡ deep_count (routes_in old) i
  count_shallow i shallow = rw now_left (left_shallow old index (prefix_of ip depth) depth found i shallow)

  pub count_here : 24 < depth → deep_count (routes_in old) (ip / 256) ≡ deep_count (routes_in new) (ip / 256) + 1
  count_here deep = rw now_left (left_here old index (prefix_of ip depth) depth found (ip / 256) deep (deep_first ip depth deep most))

  pub count_others : (i : ℕ) → 24 < depth → i ≢ ip / 256 → deep_count (routes_in new) i ≡ deep_count (routes_in old) i
  count_others i deep other =
      rw now_left (left_others old index (prefix_of ip depth) depth found (ip / 256) i deep (deep_first ip depth deep most) other)

  -- the rule is out, but its group still counts it
  pub taken_out : TakesOut old new ip depth
  taken_out = record {
    kept = deleted;
    drops = dropped old index (prefix_of ip depth) depth found new now_left (same_max ∙ max) (rw (overwritten.counts, table));
    shallow = λ le i. count_shallow i le;
    here = count_here;
    others = λ deep i. count_others i deep;
  }

-- closing a group does not change what a caller sees
pub closed_drops : (old s new : RuledTable) (ip depth : ℕ) → Drops (shown old) (shown s) (prefix_of ip depth) depth → new.rules ≡ s.rules →
    new.max_rules ≡ s.max_rules → Closed (ip / 256) s.table new.table → Drops (shown old) (shown new) (prefix_of ip depth) depth
closed_drops old s new ip depth drops rules max closed = record {
  changes = rw rules drops.changes;
  count = rw rules drops.count;
  max_rules = max ∙ drops.max_rules;
  groups = rw (closed.counts, length-set) drops.groups;
}
