-- Adding a rule: in place of another, or as a new one.
use Rattle.std.proofs.Common.{◌≡◌, ◌≢◌, ℕ, ◌+◌, ◌-◌, ◌<◌, ◌≤◌, ◌⊎◌, false, ◌&&◌, List, [], ◌∷◌, ◌++◌, length, take, drop, Some, None}
use Rattle.std.proofs.Common.{◌∙◌, ap, arith, inl, inr, length-set}
use Rattle.std.specs.Prelude.{nat_lt, vec_capacity}
use Rattle.std.proofs.lemmas.Bool.{lt-ltb, le-ltb, lt-leb}
use Rattle.std.proofs.lemmas.List.{length-map}
use Rattle.std.proofs.lemmas.Nat.{shr_below}
use Rattle.dp_model.specs.Prefixes.{Route}
use Rattle.dp_lpm.specs.declared.error.LpmError.TheVariants.{GroupsFull}
use Rattle.dp_lpm.specs.declared.rule.Rule.{Rule}
use Rattle.dp_lpm.specs.declared.ruled_table.RuledTable.{RuledTable}
use Rattle.dp_lpm.specs.declared.table.Table.{Table}
use Rattle.dp_lpm.specs.Faults.{new_fault}
use Rattle.dp_lpm.specs.Routes.{IsRoute, is_deep_in, route_at, groups_needed, ChangesAt}
use Rattle.dp_lpm.specs.Rules.{route_of, routes_of, IsMissing}
use Rattle.dp_lpm.specs.Tables.{IsTable, entry_for, group_at, Opened, IsFull}
use Rattle.dp_lpm.specs.Kept.{one_if, deep_count, Grouped, routes_in, shown, IsKept, first_of, TakesIn}
use Rattle.dp_lpm.proofs.Splices.{put_splice, splice_changes}
use Rattle.dp_lpm.proofs.Within.{missing_at}
use Rattle.dp_lpm.proofs.Ordering.{all_put, ordered_put, length_put, all_rules, all_routes}
use Rattle.dp_lpm.proofs.Counting.{spliced_count, groups_same, groups_change, used_few, used_all}
use Rattle.dp_lpm.proofs.Grouping.{grouped_same, grouped_opened}

-- ---- the first bits of a route

pub deep_yes : (r : Route) → 24 < r.depth → one_if (is_deep_in (first_of r) r) ≡ 1
deep_yes r deep = grind arith

pub deep_other : (r : Route) (i : ℕ) → 24 < r.depth → i ≢ first_of r → one_if (is_deep_in i r) ≡ 0
deep_other r i deep other = grind arith

pub deep_no : (r : Route) (i : ℕ) → r.depth ≤ 24 → one_if (is_deep_in i r) ≡ 0
deep_no r i shallow = grind arith

-- the first 24 bits of a deep route
pub first_small : (r : Route) → IsRoute r → 24 < r.depth → first_of r < 16777216
first_small r is deep =
    let bits : r.depth ≡ 24 + (r.depth - 24) = omega arith in shr_below r.prefix 24 (r.depth - 24) (rw bits at is.prefix)

-- the only rule of a list is its route
pub found_route : (r : Rule) → route_at (routes_of (r ∷ [])) r.prefix r.depth ≡ Some (route_of r)
found_route r = grind arith

-- ---- a new rule

-- the table as it is, for a rule that is not deep; with the first bits opened, for a deep one
abbrev pub Makes : Rule → Table → Table → Type 0
Makes r old new = ((r.depth ≤ 24) × (new ≡ old)) ⊎ ((24 < r.depth) × Opened (first_of (route_of r)) old new)

put_count : (rules : List Rule) (index i : ℕ) (r : Rule) → IsMissing rules r.depth r.prefix index →
    deep_count (routes_of (take index rules ++ r ∷ drop index rules)) i ≡ deep_count (routes_of rules) i + one_if (is_deep_in i (route_of r))
put_count rules index i r missing =
    omega (arith, spliced_count rules (take index rules ++ r ∷ drop index rules) r.prefix r.depth i (put_splice rules index r missing))

module _ (old new : RuledTable) (index : ℕ) (r : Rule) (kept : IsKept old) (is : IsRoute (route_of r))
    (missing : IsMissing old.rules.items r.depth r.prefix index)
    (few : length old.rules.items < old.max_rules) (rules : new.rules.items ≡ take index old.rules.items ++ r ∷ drop index old.rules.items)
    (room : vec_capacity new.rules ≡ vec_capacity old.rules) (max : new.max_rules ≡ old.max_rules) (makes : Makes r old.table new.table) where
  absent : route_at (routes_in old) r.prefix r.depth ≡ None
  absent = missing_at old.rules.items r.depth r.prefix index missing

  changes : ChangesAt (routes_in old) (routes_of (take index old.rules.items ++ r ∷ drop index old.rules.items)) r.prefix r.depth (Some (route_of r))
  changes = rw (found_route r) at (splice_changes old.rules.items (take index old.rules.items ++ r ∷ drop index old.rules.items) r.prefix r.depth
      (put_splice old.rules.items index r missing))

  counted : (i : ℕ) → deep_count (routes_in new) i ≡ deep_count (routes_in old) i + one_if (is_deep_in i (route_of r))
  counted i = rw rules (put_count old.rules.items index i r missing)

  table : Makes r old.table new.table → IsTable new.table
  table (inl (shallow, e)) = rw e kept.table
  table (inr (deep, opened)) = opened.table

  same : Makes r old.table new.table → (ip : ℕ) → entry_for new.table ip ≡ entry_for old.table ip
  same (inl (shallow, e)) ip = rw e
  same (inr (deep, opened)) ip = opened.same ip

  groups : Makes r old.table new.table → Grouped new.table (routes_in new)
  groups (inl (shallow, e)) = rw e (grouped_same old.table (routes_in old) (routes_in new) kept.groups
      (λ i. omega (arith, counted i, deep_no (route_of r) i shallow)))
  groups (inr (deep, opened)) = grouped_opened old.table new.table (routes_in old) (routes_in new) (first_of (route_of r)) kept.table
      kept.groups opened (first_small (route_of r) is deep) (omega (arith, counted (first_of (route_of r)), deep_yes (route_of r) deep))
      (λ i other. omega (arith, counted i, deep_other (route_of r) i deep other))

  lengths : Makes r old.table new.table → length new.table.counts.items ≡ length old.table.counts.items
  lengths (inl (shallow, e)) = rw e
  lengths (inr (deep, opened)) = rw (opened.counts, length-set)

  group : Makes r old.table new.table → 24 < r.depth → (g : ℕ) × (group_at new.table (first_of (route_of r)) ≡ Some g)
  group (inl (shallow, e)) deep = absurd (omega arith)
  group (inr (deep, opened)) _ = (opened.group, opened.named)

  fits : Makes r old.table new.table → (nat_lt 24 r.depth && nat_lt (length old.table.counts.items) (groups_needed (route_of r ∷ routes_in old))) ≡ false
  fits (inl (shallow, e)) = rw (le-ltb 24 r.depth shallow)
  fits (inr (deep, opened)) =
      let needs = groups_same 16777216 (routes_in new) (route_of r ∷ routes_in old) (λ i _. ap (nat_lt 0) (omega (arith, counted i))) in
      rw (lt-ltb 24 r.depth deep) (le-ltb (length old.table.counts.items) (groups_needed (route_of r ∷ routes_in old))
      (omega (arith, needs, (groups (inr (deep, opened))).needed, used_few new.table.counts.items, lengths (inr (deep, opened)))))

  fault : new_fault (shown old) (route_of r) ≡ None
  fault = rw (lt-leb old.max_rules (length (routes_in old)) (omega (arith, length-map old.rules.items route_of)), fits makes)

  pub grown : TakesIn old new (route_of r) × (new_fault (shown old) (route_of r) ≡ None)
  grown = (
    record {
      kept = record {
        rules = simp (rules, max) (record {
          order = ordered_put old.rules.items index r kept.rules.order missing.parts;
          each = all_routes IsRoute (take index old.rules.items ++ r ∷ drop index old.rules.items)
              (all_put (λ q. IsRoute (route_of q)) old.rules.items index r (all_rules IsRoute old.rules.items kept.rules.each) is);
          few = rw length_put (omega arith);
          most = kept.rules.most;
          room = room ∙ kept.rules.room;
        });
        table = table makes;
        answers = λ ip. rw (same makes ip) (kept.answers ip);
        groups = groups makes;
      };
      puts = record {
        changes = rw rules changes;
        count = rw absent (omega (
          arith,
          length-map new.rules.items route_of,
          length-map old.rules.items route_of,
          ap length rules,
          length_put old.rules.items index r,
        ));
        max_rules = max;
        groups = lengths makes;
      };
      group = group makes;
    },
    fault,
  )

-- no group is left for a deep rule
pub full : (s : RuledTable) (t : Table) (r : Rule) → IsKept s → IsRoute (route_of r) → length s.rules.items < s.max_rules → 24 < r.depth →
    IsFull (first_of (route_of r)) s.table t → new_fault (shown s) (route_of r) ≡ Some GroupsFull
full s t r kept is few deep none =
    let first = first_of (route_of r) in
    let R = routes_in s in
    let change = groups_change 16777216 first R (route_of r ∷ R) (first_small (route_of r) is deep)
    (λ i other. omega (arith, deep_other (route_of r) i deep other)) in
    let was : one_if (nat_lt 0 (deep_count R first)) ≡ 0 = rw (kept.groups.plain first none.none) in
    let now : one_if (nat_lt 0 (deep_count (route_of r ∷ R) first)) ≡ 1 = rw (deep_yes (route_of r) deep, kept.groups.plain first none.none) in
    let all = used_all s.table.counts.items none.full in
    rw (
      lt-leb s.max_rules (length R) (omega (arith, length-map s.rules.items route_of)),
      lt-ltb 24 r.depth deep,
      lt-ltb (length s.table.counts.items) (groups_needed (route_of r ∷ R)) (omega (arith, change, was, now, all, kept.groups.needed)),
    )
