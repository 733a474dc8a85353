-- The group of the first bits has one rule fewer, perhaps none.
use Rattle.std.proofs.lemmas.Grind.{common_steps}
use Rattle.std.proofs.Common.{◌≡◌, ◌-◌, ◌*◌, refl, sym, ◌∙◌, ap, arith, length-set}
use Rattle.std.specs.Vec.{with_item}
use Rattle.std.specs.Prelude.{slice_set}
use Rattle.std.proofs.lemmas.Option.{same_Some}
use Rattle.dp_lpm.specs.declared.table.Table.{Table}
use Rattle.dp_lpm.proofs.Entries.{grouped_by, number_at, entry_at, group_fits}
use Rattle.dp_lpm.proofs.Groups.{closed_more, index_set_same}
use Rattle.dp_lpm.proofs.Closing.{closed_last, group_there}
use Rattle.dp_lpm.proofs.table.Table.close.Goals as goal

pub returns-then-index-eq0 : goal.returns-then-index-eq0
returns-then-index-eq0 c =
    let old = c.args.self.now in
    let g = c.from-group.result in
    let new : Table = record {
      first = with_item old.first c.args.first c.index-then-index-eq0.result.now;
      cells = old.cells;
      counts = with_item old.counts g (c.index_mut.result.now - 1);
    } in
    let within = group_there old.first.items c.args.first c.requires.can.group c.requires.can.named in
    let named = grouped_by old c.args.first g c.index.result.now within c.index.ensures (rw c.from-group.ensures c.in-Group.ensures) in
    let there = c.requires.table.named c.args.first g named in
    let some = c.requires.table.used c.args.first g named in
    let is = number_at old.counts.items g c.index_mut.result.now there c.index_mut.ensures.value in
    let len = length-set old.counts.items g (c.index_mut.result.now - 1) in
    let now = number_at (slice_set old.counts.items g (c.index_mut.result.now - 1)) g c.index-in-Group.result.now (omega (arith, there, len))
    c.index-in-Group.ensures in
    let set = index_set_same old.counts.items g (c.index_mut.result.now - 1) there in
    let none : c.index_mut.result.now - 1 ≡ 0 = sym set ∙ (now ∙ c.if-index-eq0.true) in
    let same = same_Some c.requires.can.group g (sym c.requires.can.named ∙ named) in
    let cell = entry_at old.cells.items (g * 256) c.index-then-index-eq0.result.now
    (omega (arith, group_fits old c.args.first g 0 c.requires.table named (omega arith))) c.index-then-index-eq0.ensures in
    closed_last old new c.args.first g c.index-then-index-eq0.result.now c.requires.table named (omega (arith, is, some, none))
    (λ j lt. rw same at (c.requires.can.even (rw same (omega (arith, is, some, none))) j lt))
    (sym cell) refl refl (ap (slice_set old.counts.items g) none) (refl, refl, refl)

pub returns-else-index-eq0 : goal.returns-else-index-eq0
returns-else-index-eq0 c =
    let old = c.args.self.now in
    let g = c.from-group.result in
    let new : Table = record old { counts = with_item old.counts g (c.index_mut.result.now - 1) } in
    let within = group_there old.first.items c.args.first c.requires.can.group c.requires.can.named in
    let named = grouped_by old c.args.first g c.index.result.now within c.index.ensures (rw c.from-group.ensures c.in-Group.ensures) in
    let there = c.requires.table.named c.args.first g named in
    let is = number_at old.counts.items g c.index_mut.result.now there c.index_mut.ensures.value in
    let len = length-set old.counts.items g (c.index_mut.result.now - 1) in
    let now = number_at (slice_set old.counts.items g (c.index_mut.result.now - 1)) g c.index-in-Group.result.now (omega (arith, there, len))
    c.index-in-Group.ensures in
    let set = index_set_same old.counts.items g (c.index_mut.result.now - 1) there in
    closed_more old new c.args.first g c.index_mut.result.now c.requires.table named refl refl is (omega (arith, now, set, c.if-index-eq0.false)) refl
    (refl, refl, refl)

pub overflow_sub-index_mut : goal.overflow_sub-index_mut
overflow_sub-index_mut c = grind (arith, common_steps)

pub index-requires-in-Group : goal.index-requires-in-Group
index-requires-in-Group c = grind (arith, common_steps)

pub index_mut-requires : goal.index_mut-requires
index_mut-requires c = grind (arith, common_steps)

pub index-requires-then-index-eq0 : goal.index-requires-then-index-eq0
index-requires-then-index-eq0 c = grind (arith, common_steps)

pub overflow_mul-group : goal.overflow_mul-group
overflow_mul-group c = grind (arith, common_steps)

pub returns-in_default : goal.returns-in_default
returns-in_default c = grind (arith, common_steps)
