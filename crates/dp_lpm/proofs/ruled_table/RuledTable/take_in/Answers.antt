-- The rule replaces one, or is new.
use Rattle.std.proofs.Common.{refl}
use Rattle.std.specs.Vec.{with_item}
use Rattle.dp_lpm.specs.declared.ruled_table.RuledTable.{RuledTable}
use Rattle.dp_lpm.proofs.Replacing.{replaced, new_outcome}
use Rattle.dp_lpm.proofs.ruled_table.RuledTable.take_in.Goals as goal

pub returns-in-Ok : goal.returns-in-Ok
returns-in-Ok c =
    let old = c.args.self.now in
    let new : RuledTable = record old { rules = with_item old.rules c.in-Ok.index c.args.rule } in
    replaced old new c.in-Ok.index c.args.rule c.requires.kept c.requires.rule
    (rw c.deref.ensures.value at c.in-Ok.ensures.found) refl refl refl refl

pub returns-in-Err : goal.returns-in-Err
returns-in-Err c =
    let old = c.args.self.now in
    new_outcome old c.put.new.self c.in-Err.index c.args.rule (rw c.deref.ensures.value at c.in-Err.ensures.missing) c.put.result c.put.ensures
