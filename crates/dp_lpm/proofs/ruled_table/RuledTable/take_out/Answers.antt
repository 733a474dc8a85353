-- The rule is out, and the entries of its prefix follow from the next.
use Rattle.std.proofs.Common.{◌-◌, refl}
use Rattle.dp_lpm.specs.declared.ruled_table.RuledTable.{RuledTable}
use Rattle.dp_lpm.specs.Kept.{routes_in}
use Rattle.dp_lpm.proofs.Deleting.{entry_fits, deep_group, taken_out}
use Rattle.dp_lpm.proofs.ruled_table.RuledTable.take_out.Goals as goal

pub overwrite_shallower-requires-clause-deep : goal.overwrite_shallower-requires-clause-deep
overwrite_shallower-requires-clause-deep c = deep_group c.args.self.now c.args.ip c.args.depth c.args.index c.requires.kept c.requires.most c.requires.found

pub overwrite_shallower-requires-clause-storable : goal.overwrite_shallower-requires-clause-storable
overwrite_shallower-requires-clause-storable c =
    rw (c.entry_within-next.ensures, c.deref.ensures.value) (entry_fits (routes_in c.args.self.now) (c.args.depth - 1) c.args.ip c.requires.kept.rules.each)

pub returns : goal.returns
returns c =
    let old = c.args.self.now in
    let mid : RuledTable = record old { rules = c.remove.new.rules } in
    taken_out old mid c.overwrite_shallower.new.self c.args.index c.args.ip c.args.depth c.entry_within-next.result c.requires.kept c.requires.found
    c.requires.some
    c.requires.most c.remove.ensures.items c.remove.ensures.capacity refl refl
    (rw c.deref.ensures.value at c.entry_within-next.ensures)
    c.overwrite_shallower.ensures.overwritten c.overwrite_shallower.ensures.rules c.overwrite_shallower.ensures.max_rules
