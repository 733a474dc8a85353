-- Groups that first bits get and lose.
use Rattle.std.proofs.Common.{◌≡◌, ◌≢◌, ℕ, ◌+◌, ◌*◌, ◌/◌, ◌%◌, ◌<◌, ◌≤◌, ◌⊎◌, List, length, Some, None}
use Rattle.std.proofs.Common.{arith, ⊎_elim, inl, inr, length-set}
use Rattle.std.specs.Prelude.{◌==◌, position, slice_index, slice_set}
use Rattle.std.proofs.lemmas.Bool.{cases_eq, cases_lt, eqb-true}
use Rattle.std.proofs.lemmas.Option.{same_Some}
use Rattle.std.proofs.lemmas.List.Quantifiers.{position-Some}
use Rattle.dp_lpm.specs.declared.cell.Cell.{Cell}
use Rattle.dp_lpm.specs.declared.cell.TableEntry.TheVariants.{Group}
use Rattle.dp_lpm.specs.declared.table.Table.{Table}
use Rattle.dp_lpm.specs.Cells.{at, entry_in}
use Rattle.dp_lpm.specs.Tables.{IsTable, first_at, group_at, entry_for, Opened}
use Rattle.dp_lpm.proofs.Overwriting.{ChangedUpTo, still_leaves, at-set_same, at-set_other}
use Rattle.dp_lpm.proofs.Entries.{entry_grouped, entry_plain, entry_same, SameRoom, still_whole}
use Rattle.dp_lpm.proofs.Groups.{index_set_same, index_set_other}

pub free_index : (xs : List ℕ) (k : ℕ) → position (λ n. n == 0) xs ≡ Some k → (k < length xs) × (slice_index xs k ≡ 0)
free_index xs k e = let (there, is, _) = position-Some (λ n. n == 0) xs k 0 e in (there, eqb-true (slice_index xs k) 0 is)

module _ (old new : Table) (first g : ℕ) (cell : Cell) (table : IsTable old) (there : first < 16777216) (none : group_at old first ≡ None)
    (free : g < length old.counts.items) (zero_there : slice_index old.counts.items g ≡ 0) (is : entry_in cell ≡ Group g)
    (firsts : new.first.items ≡ slice_set old.first.items first cell) (lengths : length new.cells.items ≡ length old.cells.items)
    (so : ChangedUpTo (g * 256) (g * 256 + 256) (λ _. first_at old first) old.cells.items new.cells.items)
    (counts : new.counts.items ≡ slice_set old.counts.items g 1) (room : SameRoom old new) where
  len : length new.counts.items ≡ length old.counts.items
  len = rw (counts, length-set)

  mine_named : group_at new first ≡ Some g
  mine_named = let set = at-set_same old.first.items first cell (omega (arith, table.first)) in rw (firsts, set, is)

  elsewhere : (i : ℕ) → i ≢ first → first_at new i ≡ first_at old i
  elsewhere i other = rw firsts (at-set_other old.first.items first i cell other)

  not_mine : (i h : ℕ) → group_at old i ≡ Some h → h ≢ g
  not_mine i h named e = omega (arith, rw e at (table.used i h named))

  -- first bits with a group are these ones, or had it before
  either : (i h : ℕ) → group_at new i ≡ Some h → ((i ≡ first) × (h ≡ g)) ⊎ ((h ≢ g) × (group_at old i ≡ Some h))
  either i h named = ⊎_elim
      (λ e. inl (e, same_Some h g (rw (← named, e) mine_named)))
      (λ e. let was : group_at old i ≡ Some h = rw (← elsewhere i e) named in inr (not_mine i h was, was))
      (cases_eq i first)

  apart : (h j : ℕ) → h ≢ g → j < 256 → at new.cells.items (h * 256 + j) ≡ at old.cells.items (h * 256 + j)
  apart h j other lt = ⊎_elim (λ (under : h < g). so.below (h * 256 + j) (omega arith)) (λ (over : g ≤ h). so.above (h * 256 + j) (omega arith)) (cases_lt h g)

  here : (ip : ℕ) → ip / 256 ≡ first → entry_for new ip ≡ entry_for old ip
  here ip e = rw (entry_grouped new ip g (rw e mine_named), entry_plain old ip (rw e none), e) (so.inside (g * 256 + ip % 256) (omega arith) (omega arith))

  -- first bits without a group get one that was free
  pub opened_new : Opened first old new
  opened_new = record {
    table = record {
      first = rw (firsts, length-set) table.first;
      cells = rw (lengths, len) table.cells;
      few = rw len table.few;
      named = λ i h named. ⊎_elim (λ (_, e). rw (len, e) free) (λ (_, was). rw len (table.named i h was)) (either i h named);
      used = λ i h named. ⊎_elim
          (λ (_, e). rw (counts, e, index_set_same old.counts.items g 1 free) (omega arith))
          (λ (e, was). rw (counts, index_set_other old.counts.items g h 1 e) (table.used i h was))
          (either i h named);
      apart = λ i j h one other. ⊎_elim
          (λ (e, mine). ⊎_elim (λ (f, _). omega arith) (λ (apart, _). absurd (apart mine)) (either j h other))
          (λ (apart, was). ⊎_elim (λ (_, mine). absurd (apart mine)) (λ (_, then). table.apart i j h was then) (either j h other))
          (either i h one);
      leaves = still_leaves (g * 256) (g * 256 + 256) (λ _. first_at old first) old.cells.items new.cells.items so (λ e _. none) table.leaves;
      room = still_whole old new table (rw (firsts, length-set)) lengths len room;
    };
    same = λ ip. ⊎_elim (here ip) (λ (e : ip / 256 ≢ first). entry_same old new ip (elsewhere (ip / 256) e)
        (λ h named. apart h (ip % 256) (not_mine (ip / 256) h named) (omega arith))) (cases_eq (ip / 256) first);
    group = g;
    before = inr (none, zero_there);
    named = mine_named;
    others = λ i other. rw (elsewhere i other);
    counts = rw (zero_there, counts);
  }
