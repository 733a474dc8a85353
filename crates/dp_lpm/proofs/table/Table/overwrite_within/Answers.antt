-- In a group, or the one entry of the first bits.
use Rattle.std.proofs.Common.{◌+◌, ◌*◌, refl, sym, ◌∙◌, ap, arith, length}
use Rattle.std.specs.Vec.{with_items}
use Rattle.std.proofs.lemmas.List.{with_items_is}
use Rattle.dp_lpm.specs.declared.table.Table.{Table}
use Rattle.dp_lpm.specs.Cells.{entry_in, overwritten}
use Rattle.dp_lpm.proofs.Overwriting.{ChangedUpTo}
use Rattle.dp_lpm.proofs.Entries.{named_group, unnamed_group, entry_at}
use Rattle.dp_lpm.proofs.OverwritingWithin.{overwritten_group, overwritten_plain, overwritten_whole}
use Rattle.dp_lpm.proofs.table.Table.overwrite_within.Goals as goal

pub returns-in-Group : goal.returns-in-Group
returns-in-Group c =
    let old = c.args.self.now in
    let new : Table = record old { cells = with_items old.cells c.overwrite_shallower.new.cells } in
    let g = c.from.result in let from = g * 256 + c.args.low in
    let first = entry_at old.first.items c.args.first c.index.result.now (omega arith) c.index.ensures in
    let is = sym c.in-Group.is ∙ (c.entry.ensures ∙ sym first) in
    let now = with_items_is old.cells c.overwrite_shallower.new.cells (c.overwrite_shallower.ensures.len ∙ c.deref_mut.ensures.len) in
    let so : ChangedUpTo from (from + c.args.count) (overwritten c.args.depth (entry_in c.args.to)) c.deref_mut.result.now c.overwrite_shallower.new.cells =
    record { inside = c.overwrite_shallower.ensures.inside; below = c.overwrite_shallower.ensures.below; above = c.overwrite_shallower.ensures.above } in
    overwritten_group old new c.args.first c.args.low c.args.count c.args.depth g (entry_in c.args.to) c.requires.table c.requires.order
    c.requires.to
    (named_group _ g (rw c.from.ensures is)) refl refl (ap length now ∙ (c.overwrite_shallower.ensures.len ∙ ap length c.deref_mut.ensures.value))
    (rw now (rw c.deref_mut.ensures.value at so)) (refl, refl, refl)

pub returns-in_default : goal.returns-in_default
returns-in_default c =
    let old = c.args.self.now in
    let new : Table = record old { first = with_items old.first c.overwrite_shallower-in_default.new.cells } in
    let first = entry_at old.first.items c.args.first c.index.result.now (omega arith) c.index.ensures in
    let none = unnamed_group _ (λ g e. c.in_default.not-Group g (c.entry.ensures ∙ (sym first ∙ e))) in
    let now = with_items_is old.first c.overwrite_shallower-in_default.new.cells (c.overwrite_shallower-in_default.ensures.len ∙
    c.deref_mut-in_default.ensures.len) in
    let so : ChangedUpTo c.args.first (c.args.first + 1) (overwritten c.args.depth (entry_in c.args.to)) c.deref_mut-in_default.result.now
    c.overwrite_shallower-in_default.new.cells =
    record {
      inside = c.overwrite_shallower-in_default.ensures.inside;
      below = c.overwrite_shallower-in_default.ensures.below;
      above =
          c.overwrite_shallower-in_default.ensures.above;
    } in
    overwritten_whole old new c.args.first c.args.low c.args.count c.args.depth (entry_in c.args.to) (c.requires.whole none)
    (overwritten_plain old new c.args.first c.args.depth (entry_in c.args.to) c.requires.table c.requires.depth c.requires.to none refl refl (ap length now
    ∙ (c.overwrite_shallower-in_default.ensures.len ∙ ap length c.deref_mut-in_default.ensures.value))
    (rw now (rw c.deref_mut-in_default.ensures.value at so)) (refl, refl, refl))
