-- The entries for addresses, through the groups of their first bits.
use Rattle.std.proofs.Common.{◌≡◌, ℕ, ◌+◌, ◌*◌, ◌/◌, ◌%◌, ◌<◌, ◌≤◌, zero, suc, List, [], ◌∷◌, length, Option, Some, None, refl, sym, ◌∙◌}
use Rattle.std.proofs.Common.{arith}
use Rattle.std.specs.Prelude.{slice_index, slice_index_or, vec_capacity}
use Rattle.dp_lpm.specs.declared.cell.Cell.{Cell}
use Rattle.dp_lpm.specs.declared.cell.TableEntry.{TableEntry}
use Rattle.dp_lpm.specs.declared.cell.TableEntry.TheVariants.{Empty, Hop, Group}
use Rattle.dp_lpm.specs.declared.table.Table.{Table}
use Rattle.dp_lpm.specs.Cells.{at, entry_in, group_in, overwritten}
use Rattle.dp_lpm.specs.Tables.{IsTable, IsWhole, first_at, group_at, entry_for}

pub entry_grouped : (t : Table) (ip g : ℕ) → group_at t (ip / 256) ≡ Some g → entry_for t ip ≡ at t.cells.items (g * 256 + ip % 256)
entry_grouped t ip g named = rw named

pub entry_plain : (t : Table) (ip : ℕ) → group_at t (ip / 256) ≡ None → entry_for t ip ≡ first_at t (ip / 256)
entry_plain t ip none = rw none

-- the two cases of an option
pub either_group : {G : Type 0} (o : Option ℕ) → (o ≡ None → G) → ((g : ℕ) → o ≡ Some g → G) → G
either_group None none some = none refl
either_group (Some g) none some = some g refl

-- an address whose first entry and group entry stay has its entry
pub entry_same : (old new : Table) (ip : ℕ) → first_at new (ip / 256) ≡ first_at old (ip / 256) →
    ((g : ℕ) → group_at old (ip / 256) ≡ Some g → at new.cells.items (g * 256 + ip % 256) ≡ at old.cells.items (g * 256 + ip % 256)) →
    entry_for new ip ≡ entry_for old ip
entry_same old new ip first cells = grind (arith, entry_grouped new ip, entry_grouped old ip, entry_plain new ip, entry_plain old ip)

-- an entry that is overwritten with one that is no group is none itself
pub overwritten_leaf : (depth : ℕ) (to e : TableEntry) → group_in to ≡ None → group_in e ≡ None → group_in (overwritten depth to e) ≡ None
overwritten_leaf depth to e leaf other = grind arith

-- an entry that names a group has that group
pub named_group : (e : TableEntry) (g : ℕ) → Group g ≡ e → group_in e ≡ Some g
named_group e g is = rw (← is)

pub unnamed_group : (e : TableEntry) → ((g : ℕ) → e ≡ Group g → ⊥) → group_in e ≡ None
unnamed_group Empty other = refl
unnamed_group (Hop hop depth) other = refl
unnamed_group (Group g) other = absurd (other g refl)

-- a group's entries lie within those of all groups
pub group_fits : (t : Table) (i g low : ℕ) → IsTable t → group_at t i ≡ Some g → low < 256 → g * 256 + low < length t.cells.items
group_fits t i g low table named lt = omega (arith, table.named i g named)

-- the entry at an index, whatever the default is
pub item_at : (cells : List Cell) (k : ℕ) (c : Cell) → k < length cells → c ≡ slice_index_or cells k c → slice_index_or cells k (record { bits = 0 }) ≡ c
item_at [] k c there is = absurd (omega arith)
item_at (x ∷ cells) zero c there is = sym is
item_at (x ∷ cells) (suc k) c there is = item_at cells k c (omega arith) is

pub entry_at : (cells : List Cell) (k : ℕ) (c : Cell) → k < length cells → c ≡ slice_index_or cells k c → at cells k ≡ entry_in c
entry_at cells k c there is = rw (item_at cells k c there is)

pub number_at : (xs : List ℕ) (k n : ℕ) → k < length xs → n ≡ slice_index_or xs k n → slice_index xs k ≡ n
number_at [] k n there is = absurd (omega arith)
number_at (x ∷ xs) zero n there is = sym is
number_at (x ∷ xs) (suc k) n there is = number_at xs k n (omega arith) is

-- a first-level entry that was read, with or without a group
pub grouped_by : (t : Table) (i g : ℕ) (c : Cell) → i < length t.first.items → c ≡ slice_index_or t.first.items i c → Group g ≡ entry_in c →
    group_at t i ≡ Some g
grouped_by t i g c there is e = rw (entry_at t.first.items i c there is, ← e)

pub plain_by : (t : Table) (i : ℕ) (c : Cell) → i < length t.first.items → c ≡ slice_index_or t.first.items i c → ((g : ℕ) → entry_in c ≡ Group g → ⊥) →
    group_at t i ≡ None
plain_by t i c there is other = rw (entry_at t.first.items i c there is) (unnamed_group (entry_in c) other)

-- as much memory as before
abbrev pub SameRoom : Table → Table → Type 0
SameRoom old new =
    (vec_capacity new.first ≡ vec_capacity old.first) × (vec_capacity new.cells ≡ vec_capacity old.cells) × (vec_capacity new.counts ≡ vec_capacity old.counts)

pub still_whole : (old new : Table) → IsTable old → length new.first.items ≡ length old.first.items → length new.cells.items ≡ length old.cells.items →
    length new.counts.items ≡ length old.counts.items → SameRoom old new → IsWhole new
still_whole old new table firsts cells counts (first_room, cells_room, counts_room) = (
  rw (first_room, firsts) table.room.0,
  rw (cells_room, cells) table.room.1,
  rw (counts_room, counts) table.room.2,
)

-- a table without new groups: those that first bits still have are as before, and have rules
pub remade : (old new : Table) → IsTable old → length new.first.items ≡ length old.first.items → length new.cells.items ≡ length old.cells.items →
    length new.counts.items ≡ length old.counts.items →
    ((i g : ℕ) → group_at new i ≡ Some g → (group_at old i ≡ Some g) × (1 ≤ slice_index new.counts.items g)) →
    ((k : ℕ) → group_in (at new.cells.items k) ≡ None) → SameRoom old new → IsTable new
remade old new table firsts cells counts groups leaves room = record {
  first = firsts ∙ table.first;
  cells = rw (cells, counts) table.cells;
  few = rw counts table.few;
  named = λ i g is. rw counts (table.named i g (groups i g is).0);
  used = λ i g is. (groups i g is).1;
  apart = λ i j g one other. table.apart i j g (groups i g one).0 (groups j g other).0;
  leaves = leaves;
  room = still_whole old new table firsts cells counts room;
}
