-- Overwriting entries, index by index.
use Rattle.std.proofs.Common.{◌≡◌, ◌≢◌, ℕ, ◌+◌, ◌/◌, ◌<◌, ◌≤◌, List, length, None, arith, ⊎_elim}
use Rattle.std.specs.Prelude.{slice_set, slice_index_or}
use Rattle.std.proofs.lemmas.Bool.{le-leb, cases_eq}
use Rattle.std.proofs.lemmas.List.{get_or-set_same, get_or-set_other}
use Rattle.dp_lpm.specs.declared.cell.Cell.{Cell}
use Rattle.dp_lpm.specs.declared.cell.TableEntry.{TableEntry}
use Rattle.dp_lpm.specs.Cells.{at, overwritten, depth_of, entry_in, group_in}

-- those from one index up to k change in this way, and the others stay
pub record ChangedUpTo (from k : ℕ) (change : TableEntry → TableEntry) (old new : List Cell) : Type 0 where
  pub inside : (i : ℕ) → from ≤ i → i < k → at new i ≡ change (at old i)
  pub below : (i : ℕ) → i < from → at new i ≡ at old i
  pub above : (i : ℕ) → k ≤ i → at new i ≡ at old i

-- no entry becomes a group
pub still_leaves : (from k : ℕ) (change : TableEntry → TableEntry) (old new : List Cell) → ChangedUpTo from k change old new →
    ((e : TableEntry) → group_in e ≡ None → group_in (change e) ≡ None) → ((i : ℕ) → group_in (at old i) ≡ None) → (i : ℕ) → group_in (at new i) ≡ None
still_leaves from k change old new so leaf leaves i = grind (arith, so.inside i, so.below i, so.above i, leaf, leaves i)

-- where one entry changes, which is no group, the groups stay
pub still_groups : (k : ℕ) (change : TableEntry → TableEntry) (old new : List Cell) → ChangedUpTo k (k + 1) change old new →
    ((e : TableEntry) → group_in e ≡ None → group_in (change e) ≡ None) → group_in (at old k) ≡ None → (i : ℕ) → group_in (at new i) ≡ group_in (at old i)
still_groups k change old new so leaf none i = grind (arith, so.inside i, so.below i, so.above i, leaf)

-- the highest byte decides: it is the depth, or at least 128
pub shallow_in : (c : Cell) (depth : ℕ) → c.bits / 16777216 ≤ depth → depth ≤ 32 → depth_of (entry_in c) ≤ depth
shallow_in c depth shallow most = grind arith

pub deep_in : (c : Cell) (depth : ℕ) → depth < c.bits / 16777216 → depth ≤ 32 → depth < depth_of (entry_in c)
deep_in c depth deeper most = grind arith

-- an entry that is set, and the others
pub at-set_same : (cells : List Cell) (k : ℕ) (c : Cell) → k < length cells → at (slice_set cells k c) k ≡ entry_in c
at-set_same cells k c there = rw get_or-set_same

pub at-set_other : (cells : List Cell) (k i : ℕ) (c : Cell) → i ≢ k → at (slice_set cells k c) i ≡ at cells i
at-set_other cells k i c other = rw get_or-set_other

-- one more: it is shallow enough, and set
pub overwrite_set : (from k depth : ℕ) (to : Cell) (old cells : List Cell) → ChangedUpTo from k (overwritten depth (entry_in to)) old cells →
    from ≤ k → k < length cells →
    (slice_index_or cells k (record { bits = 0 })).bits / 16777216 ≤ depth → depth ≤ 32 →
    ChangedUpTo from (k + 1) (overwritten depth (entry_in to)) old (slice_set cells k to)
overwrite_set from k depth to old cells so after there shallow most = record {
  inside = λ i le lt. ⊎_elim (here i) (λ other. rw (at-set_other cells k i to other) (so.inside i le (omega arith))) (cases_eq i k);
  below = grind (arith, at-set_other cells k, so.below);
  above = grind (arith, at-set_other cells k, so.above);
}
  where
    here : (i : ℕ) → i ≡ k → at (slice_set cells k to) i ≡ overwritten depth (entry_in to) (at old i)
    here i e =
        let few = shallow_in (slice_index_or cells k (record { bits = 0 })) depth shallow most in
        rw (e, at-set_same cells k to there, ← so.above k (omega arith), le-leb (depth_of (at cells k)) depth few)

-- one more: it is deeper, and stays
pub overwrite_keep : (from k depth : ℕ) (to : TableEntry) (old cells : List Cell) → ChangedUpTo from k (overwritten depth to) old cells →
    depth < (slice_index_or cells k (record { bits = 0 })).bits / 16777216 → depth ≤ 32 → ChangedUpTo from (k + 1) (overwritten depth to) old cells
overwrite_keep from k depth to old cells so deeper most =
    let many = deep_in (slice_index_or cells k (record { bits = 0 })) depth deeper most in
    record { inside = grind (arith, so.inside, so.above); below = so.below; above = grind (arith, so.above) }
