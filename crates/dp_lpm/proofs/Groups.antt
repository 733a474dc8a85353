-- Opening and closing groups changes no entry of an address.
use Rattle.std.proofs.Common.{◌≡◌, ◌≢◌, ℕ, ◌+◌, ◌-◌, ◌<◌, ◌≤◌, List, length, Some, ap, arith, inl, length-set}
use Rattle.std.specs.Prelude.{slice_index, slice_set}
use Rattle.std.proofs.lemmas.List.{get_or-set_same, get_or-set_other}
use Rattle.dp_lpm.specs.declared.table.Table.{Table}
use Rattle.dp_lpm.specs.Tables.{IsTable, group_at, entry_for, Opened, Closed}
use Rattle.dp_lpm.proofs.Entries.{SameRoom, remade}

pub index_set_same : (xs : List ℕ) (k n : ℕ) → k < length xs → slice_index (slice_set xs k n) k ≡ n
index_set_same xs k n there = get_or-set_same xs k n 0 there

pub index_set_other : (xs : List ℕ) (k i n : ℕ) → i ≢ k → slice_index (slice_set xs k n) i ≡ slice_index xs i
index_set_other xs k i n other = get_or-set_other xs k i n 0 other

some_set : (xs : List ℕ) (k i n : ℕ) → i < length xs → 1 ≤ n → 1 ≤ slice_index xs i → 1 ≤ slice_index (slice_set xs k n) i
some_set xs k i n there some before = grind (arith, index_set_same xs k n, index_set_other xs k i n)

-- counts change only, and those of named groups stay at least 1
counted : (old new : Table) (g n : ℕ) → IsTable old → new.first.items ≡ old.first.items → new.cells.items ≡ old.cells.items →
    new.counts.items ≡ slice_set old.counts.items g n → 1 ≤ n → SameRoom old new → IsTable new
counted old new g n table firsts cells counts some room =
    remade old new table (ap length firsts) (ap length cells) (rw (counts, length-set))
    (λ i h is. let was : group_at old i ≡ Some h = rw (← firsts) is in
    (was, rw counts (some_set old.counts.items g h n (table.named i h was) some (table.used i h was))))
    (rw cells table.leaves) room

-- entries of tables with the same cells
same_entries : (old new : Table) → new.first.items ≡ old.first.items → new.cells.items ≡ old.cells.items → (ip : ℕ) → entry_for new ip ≡ entry_for old ip
same_entries old new firsts cells ip = rw (firsts, cells)

-- one rule more in an existing group
pub opened_more : (old new : Table) (first g n : ℕ) → IsTable old → group_at old first ≡ Some g → new.first.items ≡ old.first.items →
    new.cells.items ≡ old.cells.items → slice_index old.counts.items g ≡ n → new.counts.items ≡ slice_set old.counts.items g (n + 1) → SameRoom old new →
    Opened first old new
opened_more old new first g n table named firsts cells was counts room = record {
  table = counted old new g (n + 1) table firsts cells counts (omega arith) room;
  same = same_entries old new firsts cells;
  group = g;
  before = inl named;
  named = rw firsts named;
  others = λ i other. rw firsts;
  counts = rw (was, counts);
}

-- one rule fewer in a group that keeps some
pub closed_more : (old new : Table) (first g n : ℕ) → IsTable old → group_at old first ≡ Some g → new.first.items ≡ old.first.items →
    new.cells.items ≡ old.cells.items → slice_index old.counts.items g ≡ n → 1 < n → new.counts.items ≡ slice_set old.counts.items g (n - 1) →
    SameRoom old new → Closed first old new
closed_more old new first g n table named firsts cells was some counts room = record {
  table = counted old new g (n - 1) table firsts cells counts (omega arith) room;
  same = same_entries old new firsts cells;
  group = g;
  before = named;
  last = λ one. absurd (omega arith);
  more = λ _. rw firsts named;
  others = λ i other. rw firsts;
  counts = rw (was, counts);
}
