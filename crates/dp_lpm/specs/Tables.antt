-- Internal: tables of entries, and the operations on them.
use Rattle.std.specs.Prelude.{◌≡◌, ◌≢◌, ℕ, ◌+◌, ◌-◌, ◌*◌, ◌/◌, ◌%◌, ◌^◌, ◌<◌, ◌≤◌, ◌==◌, ◌⊎◌, length, replicate, position, Option, Some, None, slice_index}
use Rattle.std.specs.Prelude.{slice_set, vec_capacity}
use Rattle.std.specs.Option.{option_map_or}
use Rattle.dp_lpm.specs.declared.limits.TheConstants.{ADDRESSES, FIRST_ENTRIES, GROUP_ENTRIES, MAX_DEPTH, MAX_GROUPS}
use Rattle.dp_lpm.specs.declared.cell.TableEntry.{TableEntry}
use Rattle.dp_lpm.specs.declared.cell.TableEntry.TheVariants.{Empty}
use Rattle.dp_lpm.specs.declared.table.Table.{Table}
use Rattle.dp_lpm.specs.Cells.{at, group_in, overwritten}
use Rattle.dp_lpm.specs.Routes.{prefix_of}

-- the first-level entry of first bits; their group, if they have one
abbrev pub first_at : Table → ℕ → TableEntry
first_at t i = at t.first.items i

abbrev pub group_at : Table → ℕ → Option ℕ
group_at t i = group_in (first_at t i)

-- the entry for an address
abbrev pub entry_for : Table → ℕ → TableEntry
entry_for t ip =
    option_map_or (λ g. at t.cells.items (g * GROUP_ENTRIES + ip % GROUP_ENTRIES)) (group_at t (ip / GROUP_ENTRIES)) (first_at t (ip / GROUP_ENTRIES))

-- the lists hold what they took memory for, and have no room for more
abbrev pub IsWhole : Table → Type 0
IsWhole t =
    (vec_capacity t.first ≡ length t.first.items) × (vec_capacity t.cells ≡ length t.cells.items) × (vec_capacity t.counts ≡ length t.counts.items)

-- each named group belongs to one prefix of 24 bits, has rules, and has 256 entries, none of which is a group
pub record IsTable (t : Table) : Type 0 where
  pub first : length t.first.items ≡ FIRST_ENTRIES
  pub cells : length t.cells.items ≡ length t.counts.items * GROUP_ENTRIES
  pub few : length t.counts.items ≤ MAX_GROUPS
  pub named : (i g : ℕ) → group_at t i ≡ Some g → g < length t.counts.items
  pub used : (i g : ℕ) → group_at t i ≡ Some g → 1 ≤ slice_index t.counts.items g
  pub apart : (i j g : ℕ) → group_at t i ≡ Some g → group_at t j ≡ Some g → i ≡ j
  pub leaves : (k : ℕ) → group_in (at t.cells.items k) ≡ None
  pub room : IsWhole t

-- a slot without a table: no entries, and no memory
abbrev pub IsNoTable : Table → Type 0
IsNoTable t = (vec_capacity t.first ≡ 0) × (vec_capacity t.cells ≡ 0) × (vec_capacity t.counts ≡ 0)

-- the first address of a prefix
abbrev pub start_of : ℕ → ℕ → ℕ
start_of ip depth = prefix_of ip depth * 2 ^ (MAX_DEPTH - depth)

-- a range of addresses inside one group's, or made of whole ones
pub record IsEven (start size : ℕ) : Type 0 where
  pub bound : start + size ≤ ADDRESSES
  pub part : size < GROUP_ENTRIES → start % GROUP_ENTRIES + size ≤ GROUP_ENTRIES
  pub whole : GROUP_ENTRIES ≤ size → (start % GROUP_ENTRIES ≡ 0) × (size % GROUP_ENTRIES ≡ 0)

-- the entries of these addresses that are no deeper than that are overwritten
pub record Overwritten (start size depth : ℕ) (to : TableEntry) (old new : Table) : Type 0 where
  pub table : IsTable new
  pub inside : (ip : ℕ) → start ≤ ip → ip < start + size → entry_for new ip ≡ overwritten depth to (entry_for old ip)
  pub below : (ip : ℕ) → ip < start → entry_for new ip ≡ entry_for old ip
  pub above : (ip : ℕ) → start + size ≤ ip → entry_for new ip ≡ entry_for old ip
  pub groups : (i : ℕ) → group_at new i ≡ group_at old i
  pub counts : new.counts.items ≡ old.counts.items

-- the first bits have a group with one rule more, and no address's entry changes
pub record Opened (first : ℕ) (old new : Table) : Type 0 where
  pub table : IsTable new
  pub same : (ip : ℕ) → entry_for new ip ≡ entry_for old ip
  pub group : ℕ
  pub before : (group_at old first ≡ Some group) ⊎ ((group_at old first ≡ None) × (slice_index old.counts.items group ≡ 0))
  pub named : group_at new first ≡ Some group
  pub others : (i : ℕ) → i ≢ first → group_at new i ≡ group_at old i
  pub counts : new.counts.items ≡ slice_set old.counts.items group (slice_index old.counts.items group + 1)

-- the first bits have no group, and none is free
pub record IsFull (first : ℕ) (old new : Table) : Type 0 where
  pub none : group_at old first ≡ None
  pub full : position (λ n. n == 0) old.counts.items ≡ None
  pub same : new ≡ old

-- if the first bits' group has one rule left, its entries are all the same
pub record CanClose (first : ℕ) (t : Table) : Type 0 where
  pub group : ℕ
  pub named : group_at t first ≡ Some group
  pub some : 1 ≤ slice_index t.counts.items group
  pub even : slice_index t.counts.items group ≡ 1 → (j : ℕ) → j < GROUP_ENTRIES →
      at t.cells.items (group * GROUP_ENTRIES + j) ≡ at t.cells.items (group * GROUP_ENTRIES)

-- the first bits' group has one rule fewer, and is free if it has none; no address's entry changes
pub record Closed (first : ℕ) (old new : Table) : Type 0 where
  pub table : IsTable new
  pub same : (ip : ℕ) → entry_for new ip ≡ entry_for old ip
  pub group : ℕ
  pub before : group_at old first ≡ Some group
  pub last : slice_index old.counts.items group ≡ 1 → group_at new first ≡ None
  pub more : 1 < slice_index old.counts.items group → group_at new first ≡ Some group
  pub others : (i : ℕ) → i ≢ first → group_at new i ≡ group_at old i
  pub counts : new.counts.items ≡ slice_set old.counts.items group (slice_index old.counts.items group - 1)

-- a table without rules
pub record IsEmptyTable (groups : ℕ) (t : Table) : Type 0 where
  pub table : IsTable t
  pub same : (ip : ℕ) → entry_for t ip ≡ Empty
  pub plain : (i : ℕ) → group_at t i ≡ None
  pub counts : t.counts.items ≡ replicate groups 0
