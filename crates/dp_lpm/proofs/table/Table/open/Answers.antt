-- The group of the first bits, perhaps a new one, has one rule more.
use Rattle.std.proofs.Common.{◌+◌, ◌*◌, refl, ◌∙◌, ap, arith, length}
use Rattle.std.specs.Vec.{with_item, with_items}
use Rattle.std.proofs.lemmas.List.{with_items_is}
use Rattle.dp_lpm.specs.declared.table.Table.{Table}
use Rattle.dp_lpm.specs.Cells.{entry_in}
use Rattle.dp_lpm.proofs.Entries.{grouped_by, plain_by, number_at, entry_at}
use Rattle.dp_lpm.proofs.Overwriting.{ChangedUpTo}
use Rattle.dp_lpm.proofs.Groups.{opened_more}
use Rattle.dp_lpm.proofs.Opening.{opened_new, free_index}
use Rattle.dp_lpm.proofs.table.Table.open.Goals as goal

pub index_mut-requires : goal.index_mut-requires
index_mut-requires c =
    let named = grouped_by c.args.self.now c.args.first c.in-Group.group c.index-cell.result.now (omega arith) c.index-cell.ensures c.in-Group.ensures in
    let there = c.requires.table.named c.args.first c.in-Group.group named in
    omega (arith, there)

pub overflow_add-index_mut : goal.overflow_add-index_mut
overflow_add-index_mut c =
    let old = c.args.self.now in let g = c.from.result in
    let named = grouped_by old c.args.first g c.index-cell.result.now (omega arith) c.index-cell.ensures (rw c.from.ensures c.in-Group.ensures) in
    let there = c.requires.table.named c.args.first g named in
    let is = number_at old.counts.items g c.index_mut.result.now there c.index_mut.ensures.value in
    omega (arith, is, c.requires.room g named)

pub returns-in-Group : goal.returns-in-Group
returns-in-Group c =
    let old = c.args.self.now in let g = c.from.result in
    let new : Table = record old { counts = with_item old.counts g (c.index_mut.result.now + 1) } in
    let named = grouped_by old c.args.first g c.index-cell.result.now (omega arith) c.index-cell.ensures (rw c.from.ensures c.in-Group.ensures) in
    let there = c.requires.table.named c.args.first g named in
    opened_more old new c.args.first g c.index_mut.result.now c.requires.table named refl refl
    (number_at old.counts.items g c.index_mut.result.now there c.index_mut.ensures.value) refl (refl, refl, refl)

pub returns : goal.returns
returns c =
    let old = c.args.self.now in
    let g = c.in-Some.group in
    let new : Table = record {
      first = with_item old.first c.args.first c.of.result;
      cells = with_items old.cells c.fill.new.cells;
      counts = with_item old.counts g 1;
    } in
    let none = plain_by old c.args.first c.index-cell.result.now (omega arith) c.index-cell.ensures (λ h e. c.in_default.not-Group h (c.entry.ensures ∙ e)) in
    let free = free_index old.counts.items g (rw (← c.deref.ensures.value, ← c.free_group.ensures) c.in-Some.is) in
    let now = with_items_is old.cells c.fill.new.cells (c.fill.ensures.len ∙ c.deref_mut.ensures.len) in
    let first = entry_at old.first.items c.args.first c.index-cell.result.now (omega arith) c.index-cell.ensures in
    let so : ChangedUpTo (g * 256) (g * 256 + 256) (λ _. entry_in c.index-cell.result.now) c.deref_mut.result.now c.fill.new.cells =
    record { inside = c.fill.ensures.inside; below = c.fill.ensures.below; above = c.fill.ensures.above } in
    opened_new old new c.args.first g c.of.result c.requires.table c.requires.there none free.0 free.1 c.of.ensures refl
    (ap length now ∙ (c.fill.ensures.len ∙ ap length c.deref_mut.ensures.value))
    (rw now (rw (c.deref_mut.ensures.value, ← first) at so)) refl (refl, refl, refl)
