-- Groups whose last rule is deleted.
use Rattle.std.proofs.Common.{◌≡◌, ◌≢◌, ℕ, zero, suc, ◌+◌, ◌*◌, ◌/◌, ◌%◌, ◌<◌, List, [], ◌∷◌, length, Some, None, sym, ◌∙◌, ap, arith, ⊎_elim, length-set}
use Rattle.std.specs.Prelude.{slice_index, slice_set}
use Rattle.std.proofs.lemmas.Bool.{cases_eq}
use Rattle.dp_lpm.specs.declared.cell.Cell.{Cell}
use Rattle.dp_lpm.specs.declared.table.Table.{Table}
use Rattle.dp_lpm.specs.Cells.{at, entry_in, group_in}
use Rattle.dp_lpm.specs.Tables.{IsTable, first_at, group_at, entry_for, Closed}
use Rattle.dp_lpm.proofs.Overwriting.{at-set_same, at-set_other}
use Rattle.dp_lpm.proofs.Entries.{entry_grouped, entry_plain, entry_same, SameRoom, remade}
use Rattle.dp_lpm.proofs.Groups.{index_set_other}

-- no group past the end of a list
pub group_there : (cells : List Cell) (i g : ℕ) → group_in (at cells i) ≡ Some g → i < length cells
group_there [] i g named = cc
group_there (x ∷ cells) zero g named = omega arith
group_there (x ∷ cells) (suc i) g named = let there = group_there cells i g named in omega arith

-- first bits whose group has one rule left lose the group: all its entries are the same
pub closed_last : (old new : Table) (first g : ℕ) (cell : Cell) → IsTable old → group_at old first ≡ Some g → slice_index old.counts.items g ≡ 1 →
    ((j : ℕ) → j < 256 → at old.cells.items (g * 256 + j) ≡ at old.cells.items (g * 256)) → entry_in cell ≡ at old.cells.items (g * 256) →
    new.first.items ≡ slice_set old.first.items first cell → new.cells.items ≡ old.cells.items → new.counts.items ≡ slice_set old.counts.items g 0 →
    SameRoom old new → Closed first old new
closed_last old new first g cell table named one even is firsts cells counts room = record {
  table = remade old new table (rw (firsts, length-set)) (ap length cells) (rw (counts, length-set)) (λ i h now. let before = was i h now in (
    before,
    rw (counts, index_set_other old.counts.items g h 0 (λ e. not_first i h now (table.apart i first g (rw (← e) before) named))) (table.used i h before),
  ))
      (rw cells table.leaves) room;
  same = λ ip. ⊎_elim (here ip) (λ (e : ip / 256 ≢ first). entry_same old new ip (elsewhere (ip / 256) e) (λ h _. rw cells)) (cases_eq (ip / 256) first);
  group = g;
  before = named;
  last = λ _. none;
  more = λ some. absurd (omega arith);
  others = λ i other. rw (elsewhere i other);
  counts = rw (one, counts);
}
  where
    now_first : first_at new first ≡ at old.cells.items (g * 256)
    now_first = rw (firsts, at-set_same old.first.items first cell (group_there old.first.items first g named)) is

    none : group_at new first ≡ None
    none = rw now_first (table.leaves (g * 256))

    elsewhere : (i : ℕ) → i ≢ first → first_at new i ≡ first_at old i
    elsewhere i other = rw firsts (at-set_other old.first.items first i cell other)

    not_first : (i h : ℕ) → group_at new i ≡ Some h → i ≢ first
    not_first i h is e = let there = rw (e, none) at is in cc

    was : (i h : ℕ) → group_at new i ≡ Some h → group_at old i ≡ Some h
    was i h is = rw (← elsewhere i (not_first i h is)) is

    here : (ip : ℕ) → ip / 256 ≡ first → entry_for new ip ≡ entry_for old ip
    here ip e = rw (entry_plain new ip (rw e none), entry_grouped old ip g (rw e named), e) (now_first ∙ sym (even (ip % 256) (omega arith)))
