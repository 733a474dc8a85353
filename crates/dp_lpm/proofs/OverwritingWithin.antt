-- Overwriting entries within the addresses of one prefix of 24 bits.
use Rattle.std.proofs.Common.{◌≡◌, ℕ, ◌+◌, ◌*◌, ◌/◌, ◌%◌, ◌<◌, ◌≤◌, ◌⊎◌, length, Some, None, refl, ◌∙◌, ap, arith, ⊎_elim, inl, inr}
use Rattle.std.proofs.lemmas.Bool.{cases_lt}
use Rattle.dp_lpm.specs.declared.cell.TableEntry.{TableEntry}
use Rattle.dp_lpm.specs.declared.table.Table.{Table}
use Rattle.dp_lpm.specs.Cells.{at, group_in, overwritten}
use Rattle.dp_lpm.specs.Tables.{IsTable, group_at, Overwritten}
use Rattle.dp_lpm.proofs.Overwriting.{ChangedUpTo, still_leaves, still_groups}
use Rattle.dp_lpm.proofs.Entries.{entry_grouped, entry_plain, entry_same, overwritten_leaf, SameRoom, remade}

sides : (h g low count j : ℕ) → j < 256 → low + count ≤ 256 → (h ≡ g → (j < low) ⊎ (low + count ≤ j)) →
    (h * 256 + j < g * 256 + low) ⊎ (g * 256 + low + count ≤ h * 256 + j)
sides h g low count j lt fits outside = grind arith

-- the prefix has a group: entries of it are overwritten
pub overwritten_group : (old new : Table) (first low count depth g : ℕ) (to : TableEntry) → IsTable old → low + count ≤ 256 → group_in to ≡ None →
    group_at old first ≡ Some g → new.first.items ≡ old.first.items → new.counts.items ≡ old.counts.items → length new.cells.items ≡ length old.cells.items →
    ChangedUpTo (g * 256 + low) (g * 256 + low + count) (overwritten depth to) old.cells.items new.cells.items → SameRoom old new →
    Overwritten (first * 256 + low) count depth to old new
overwritten_group old new first low count depth g to table fits leaf named firsts counts lengths so room = record {
  table = remade old new table (ap length firsts) lengths (ap length counts)
      (λ i h is. let was : group_at old i ≡ Some h = rw (← firsts) is in (was, rw counts (table.used i h was)))
      (still_leaves (g * 256 + low) (g * 256 + low + count) (overwritten depth to) old.cells.items new.cells.items so
      (λ e none. overwritten_leaf depth to e leaf none) table.leaves) room;
  inside = λ ip le lt.
      let here : ip / 256 ≡ first = omega arith in
      let grouped : group_at old (ip / 256) ≡ Some g = rw here named in
      rw (entry_grouped new ip g (rw firsts grouped), entry_grouped old ip g grouped) (so.inside (g * 256 + ip % 256) (omega arith) (omega arith));
  below = λ ip lt. entry_same old new ip (rw firsts) (λ h is. others (ip / 256) h (ip % 256) is (omega arith) (λ e. inl (omega arith)));
  above = λ ip le. entry_same old new ip (rw firsts) (λ h is. others (ip / 256) h (ip % 256) is (omega arith) (λ e. inr (omega arith)));
  groups = λ i. rw firsts;
  counts = counts;
}
  where
    -- entries of other groups, and those of this one outside the range
    others : (i h j : ℕ) → group_at old i ≡ Some h → j < 256 → (i ≡ first → (j < low) ⊎ (low + count ≤ j)) → at new.cells.items (h * 256 + j)
        ≡ at old.cells.items (h * 256 + j)
    others i h j is lt outside = ⊎_elim (so.below (h * 256 + j)) (so.above (h * 256 + j)) (sides h g low count j lt fits
        (λ e. outside (table.apart i first g (rw (← e) is) named)))

-- the prefix has no group: its one entry is overwritten
pub overwritten_plain : (old new : Table) (first depth : ℕ) (to : TableEntry) → IsTable old → depth ≤ 32 → group_in to ≡ None → group_at old first ≡ None →
    new.cells.items ≡ old.cells.items → new.counts.items ≡ old.counts.items → length new.first.items ≡ length old.first.items →
    ChangedUpTo first (first + 1) (overwritten depth to) old.first.items new.first.items → SameRoom old new → Overwritten (first * 256) 256 depth to old new
overwritten_plain old new first depth to table small leaf none cells counts lengths so room = record {
  table = remade old new table lengths (ap length cells) (ap length counts)
      (λ i h is. let was : group_at old i ≡ Some h = rw (← groups i) is in (was, rw counts (table.used i h was))) (rw cells table.leaves) room;
  inside = λ ip le lt.
      let here : ip / 256 ≡ first = omega arith in
      let plain : group_at old (ip / 256) ≡ None = rw here none in
      rw (entry_plain new ip (groups (ip / 256) ∙ plain), entry_plain old ip plain) (so.inside (ip / 256) (omega arith) (omega arith));
  below = λ ip lt. entry_same old new ip (so.below (ip / 256) (omega arith)) (λ h is. rw cells);
  above = λ ip le. entry_same old new ip (so.above (ip / 256) (omega arith)) (λ h is. rw cells);
  groups = groups;
  counts = counts;
}
  where
    groups : (i : ℕ) → group_at new i ≡ group_at old i
    groups = still_groups first (overwritten depth to) old.first.items new.first.items so (λ e none. overwritten_leaf depth to e leaf none) none

-- one range after another
pub overwritten_joined : (start size more depth : ℕ) (to : TableEntry) (old mid new : Table) → Overwritten start size depth to old mid →
    Overwritten (start + size) more depth to mid new → Overwritten start (size + more) depth to old new
overwritten_joined start size more depth to old mid new one other = record {
  table = other.table;
  inside = λ ip le lt. ⊎_elim
      (λ (under : ip < start + size). rw (other.below ip under) (one.inside ip le under))
      (λ (over : start + size ≤ ip). rw (← one.above ip over) (other.inside ip over (omega arith)))
      (cases_lt ip (start + size));
  below = λ ip lt. other.below ip (omega arith) ∙ one.below ip lt;
  above = λ ip le. other.above ip (omega arith) ∙ one.above ip (omega arith);
  groups = λ i. other.groups i ∙ one.groups i;
  counts = other.counts ∙ one.counts;
}

-- no range
pub overwritten_none : (start depth : ℕ) (to : TableEntry) (t : Table) → IsTable t → Overwritten start 0 depth to t t
overwritten_none start depth to t table = record {
  table = table;
  inside = λ ip le lt. absurd (omega arith);
  below = λ ip lt. refl;
  above = λ ip le. refl;
  groups = λ i. refl;
  counts = refl;
}

-- the same, in terms of a call's arguments
pub overwritten_whole : (old new : Table) (first low count depth : ℕ) (to : TableEntry) → (low ≡ 0) × (count ≡ 256) → Overwritten (first * 256) 256 depth to old
    new →
    Overwritten (first * 256 + low) count depth to old new
overwritten_whole old new first low count depth to (none, all) so = let start : first * 256 + low ≡ first * 256 = omega arith in rw (start, all) so
