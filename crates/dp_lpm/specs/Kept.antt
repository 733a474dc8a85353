-- The invariant of a table: its entries and its groups follow from its rules.
use Rattle.std.specs.Prelude.{◌≡◌, ◌≢◌, ℕ, ◌+◌, ◌-◌, ◌/◌, ◌^◌, ◌<◌, ◌≤◌, Bool, nat_lt, if◌then◌else◌, List, [], ◌∷◌, length, vec_capacity, Some, None}
use Rattle.std.specs.Prelude.{slice_index}
use Rattle.std.specs.List.{AllByRecursion}
use Rattle.dp_model.specs.Prefixes.{Route}
use Rattle.dp_lpm.specs.declared.limits.TheConstants.{FIRST_BITS, GROUP_ENTRIES, MAX_DEPTH, MAX_RULES}
use Rattle.dp_lpm.specs.declared.rule.Rule.{Rule}
use Rattle.dp_lpm.specs.declared.ruled_table.RuledTable.{RuledTable}
use Rattle.dp_lpm.specs.declared.table.Table.{Table}
use Rattle.dp_lpm.specs.Routes.{RouteTable, deepest_within, is_deep_in, groups_needed, IsRoute, Puts, Drops, prefix_of}
use Rattle.dp_lpm.specs.Rules.{routes_of, entry_of, IsOrdered}
use Rattle.dp_lpm.specs.Tables.{IsTable, IsNoTable, group_at, entry_for}

abbrev pub one_if : Bool → ℕ
one_if b = if b then 1 else 0

-- how many routes deeper than 24 bits begin with these 24
abbrev pub deep_count : List Route → ℕ → ℕ
deep_count [] first = 0
deep_count (route ∷ routes) first = one_if (is_deep_in first route) + deep_count routes first

-- how many groups have rules
abbrev pub used_count : List ℕ → ℕ
used_count [] = 0
used_count (count ∷ counts) = one_if (nat_lt 0 count) + used_count counts

-- no rules, no entries, and no memory
abbrev pub KeepsNothing : RuledTable → Type 0
KeepsNothing s = (vec_capacity s.rules ≡ 0) × IsNoTable s.table × (s.max_rules ≡ 0)

abbrev pub routes_in : RuledTable → List Route
routes_in s = routes_of s.rules.items

-- the table as a caller sees it
abbrev pub shown : RuledTable → RouteTable
shown s = record { routes = routes_in s; max_rules = s.max_rules; groups = length s.table.counts.items }

-- rules in order, each with a route of a table, and room for as many as the table may have, and no more
pub record HasRules (rules : List Rule) (max_rules capacity : ℕ) : Type 0 where
  pub order : IsOrdered rules
  pub each : AllByRecursion IsRoute (routes_of rules)
  pub few : length rules ≤ max_rules
  pub most : max_rules ≤ MAX_RULES
  pub room : capacity ≡ max_rules

-- first bits have a group exactly if a deep route begins with them
pub record Grouped (t : Table) (counted : List Route) : Type 0 where
  pub grouped : (i g : ℕ) → group_at t i ≡ Some g → slice_index t.counts.items g ≡ deep_count counted i
  pub plain : (i : ℕ) → group_at t i ≡ None → deep_count counted i ≡ 0
  pub needed : used_count t.counts.items ≡ groups_needed counted

-- The entries follow from the first routes, and the groups from the second. Between calls both are the table's own
pub record Keeps (answered counted : List Route) (s : RuledTable) : Type 0 where
  pub rules : HasRules s.rules.items s.max_rules (vec_capacity s.rules)
  pub table : IsTable s.table
  -- each address has the entry of its deepest route
  pub answers : (ip : ℕ) → entry_for s.table ip ≡ entry_of (deepest_within MAX_DEPTH answered ip)
  pub groups : Grouped s.table counted

abbrev pub IsKept : RuledTable → Type 0
IsKept s = Keeps (routes_in s) (routes_in s) s

-- the first 24 bits of a deep route
abbrev pub first_of : Route → ℕ
first_of route = route.prefix / 2 ^ (route.depth - FIRST_BITS)

-- the route is in, with a group if it is deep; the entries are as before
pub record TakesIn (old new : RuledTable) (route : Route) : Type 0 where
  pub kept : Keeps (routes_in old) (routes_in new) new
  pub puts : Puts (shown old) (shown new) route
  pub group : FIRST_BITS < route.depth → (g : ℕ) × (group_at new.table (first_of route) ≡ Some g)

-- the route of the prefix is out, and the entries follow from the rest; its group still counts it
pub record TakesOut (old new : RuledTable) (ip depth : ℕ) : Type 0 where
  pub kept : Keeps (routes_in new) (routes_in old) new
  pub drops : Drops (shown old) (shown new) (prefix_of ip depth) depth
  pub shallow : depth ≤ FIRST_BITS → (i : ℕ) → deep_count (routes_in new) i ≡ deep_count (routes_in old) i
  pub here : FIRST_BITS < depth → deep_count (routes_in old) (ip / GROUP_ENTRIES) ≡ deep_count (routes_in new) (ip / GROUP_ENTRIES) + 1
  pub others : FIRST_BITS < depth → (i : ℕ) → i ≢ ip / GROUP_ENTRIES → deep_count (routes_in new) i ≡ deep_count (routes_in old) i
