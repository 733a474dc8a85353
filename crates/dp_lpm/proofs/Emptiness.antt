-- A table whose entries are all empty.
use Rattle.std.proofs.Common.{◌≡◌, ℕ, zero, suc, ◌*◌, ◌/◌, ◌≤◌, length, replicate, None, refl, sym, ◌∙◌, arith}
use Rattle.std.specs.Prelude.{vec_capacity}
use Rattle.std.proofs.lemmas.List.{length-replicate}
use Rattle.dp_lpm.specs.declared.cell.Cell.{Cell}
use Rattle.dp_lpm.specs.declared.cell.TableEntry.TheVariants.{Empty}
use Rattle.dp_lpm.specs.declared.table.Table.{Table}
use Rattle.dp_lpm.specs.Cells.{at, entry_in}
use Rattle.dp_lpm.specs.Tables.{group_at, IsEmptyTable}
use Rattle.dp_lpm.proofs.Entries.{entry_plain}

-- every index of a list of empty entries is empty, and so is every index past it
at-replicate : (n k : ℕ) (c : Cell) → entry_in c ≡ Empty → at (replicate n c) k ≡ Empty
at-replicate zero k c is = refl
at-replicate (suc n) zero c is = is
at-replicate (suc n) (suc k) c is = at-replicate n k c is

pub emptied : (t : Table) (groups : ℕ) (c : Cell) → groups ≤ 256 → entry_in c ≡ Empty → t.first.items ≡ replicate 16777216 c →
    t.cells.items ≡ replicate (256 * groups) c → t.counts.items ≡ replicate groups 0 → vec_capacity t.first ≡ 16777216 →
    vec_capacity t.cells ≡ 256 * groups → vec_capacity t.counts ≡ groups → IsEmptyTable groups t
emptied t groups c few is firsts cells counts first_room cells_room counts_room = record {
  table = record {
    first = rw firsts (length-replicate 16777216 c);
    cells = rw (cells, len, length-replicate) (omega arith);
    few = rw len few;
    named = λ i g named. let none = plain i in cc;
    used = λ i g named. let none = plain i in cc;
    apart = λ i j g named other. let none = plain i in cc;
    leaves = λ k. rw (cells, at-replicate (256 * groups) k c is);
    room = (first_room ∙ sym (rw firsts (length-replicate 16777216 c)), cells_room ∙ sym (rw cells (length-replicate (256 * groups) c)), counts_room ∙ sym len);
  };
  same = λ ip. rw (entry_plain t ip (plain (ip / 256))) (empty (ip / 256));
  plain = plain;
  counts = counts;
}
  where
    len : length t.counts.items ≡ groups
    len = rw (counts, length-replicate)

    empty : (i : ℕ) → at t.first.items i ≡ Empty
    empty i = rw firsts (at-replicate 16777216 i c is)

    plain : (i : ℕ) → group_at t i ≡ None
    plain i = rw (empty i)
