-- The rule is out, and its group is closed.
use Rattle.std.proofs.Common.{◌/◌, refl, arith}
use Rattle.dp_lpm.specs.declared.ruled_table.RuledTable.{RuledTable}
use Rattle.dp_lpm.specs.Kept.{routes_in}
use Rattle.dp_lpm.proofs.Deleting.{delete_none, delete_found, closed_drops}
use Rattle.dp_lpm.proofs.Shrinking.{can_close, closed_keeps, shallow_keeps}
use Rattle.dp_lpm.proofs.ruled_table.RuledTable.delete.Goals as goal

pub returns-in_default-clause-err : goal.returns-in_default-clause-err
returns-in_default-clause-err c = (
  delete_none c.args.self.now c.args.ip c.args.depth c.in_default.field-0 c.if-depth-lt1.false c.if-depth-gt-MAX_DEPTH.false
      (rw (c.prefix_of.ensures, c.deref.ensures.value) at c.in_default.ensures.missing),
  refl,
)

pub take_out-requires-clause-found : goal.take_out-requires-clause-found
take_out-requires-clause-found c =
    rw (c.prefix_of.ensures, c.deref.ensures.value) at c.in-Ok.ensures.found

pub close-requires-clause-can : goal.close-requires-clause-can
close-requires-clause-can c =
    can_close c.take_out.new.self (routes_in c.args.self.now) (c.args.ip / 256) c.take_out.ensures.kept (c.take_out.ensures.here c.if-depth-gt-FIRST_BITS.true)

pub returns-then-depth-gt-FIRST_BITS-clause-kept : goal.returns-then-depth-gt-FIRST_BITS-clause-kept
returns-then-depth-gt-FIRST_BITS-clause-kept c =
    let new : RuledTable = record c.take_out.new.self { table = c.close.new.self } in
    closed_keeps c.take_out.new.self new (routes_in c.args.self.now) (c.args.ip / 256) c.take_out.ensures.kept
    (c.take_out.ensures.here c.if-depth-gt-FIRST_BITS.true) (c.take_out.ensures.others c.if-depth-gt-FIRST_BITS.true) (omega arith) c.close.ensures refl refl

pub returns-then-depth-gt-FIRST_BITS-clause-ok : goal.returns-then-depth-gt-FIRST_BITS-clause-ok
returns-then-depth-gt-FIRST_BITS-clause-ok c = (
  closed_drops c.args.self.now c.take_out.new.self (record c.take_out.new.self { table = c.close.new.self }) c.args.ip c.args.depth c.take_out.ensures.drops
      refl refl c.close.ensures,
  delete_found c.args.self.now c.args.ip c.args.depth c.in-Ok.index c.if-depth-lt1.false c.if-depth-gt-MAX_DEPTH.false
      (rw (c.prefix_of.ensures, c.deref.ensures.value) at c.in-Ok.ensures.found),
)

pub returns-else-depth-gt-FIRST_BITS-clause-kept : goal.returns-else-depth-gt-FIRST_BITS-clause-kept
returns-else-depth-gt-FIRST_BITS-clause-kept c = shallow_keeps c.take_out.new.self (routes_in c.args.self.now) c.take_out.ensures.kept
    (c.take_out.ensures.shallow c.if-depth-gt-FIRST_BITS.false)

pub returns-else-depth-gt-FIRST_BITS-clause-ok : goal.returns-else-depth-gt-FIRST_BITS-clause-ok
returns-else-depth-gt-FIRST_BITS-clause-ok c = (
  c.take_out.ensures.drops,
  delete_found c.args.self.now c.args.ip c.args.depth c.in-Ok.index c.if-depth-lt1.false c.if-depth-gt-MAX_DEPTH.false
      (rw (c.prefix_of.ensures, c.deref.ensures.value) at c.in-Ok.ensures.found),
)
