-- The rule is in, and the entries of its prefix follow from it where it is the deepest.
use Rattle.std.proofs.Common.{arith}
use Rattle.dp_lpm.proofs.Adding.{rule_is, added_group, added_keeps}
use Rattle.dp_lpm.proofs.ruled_table.RuledTable.add.Goals as goal

pub take_in-requires-clause-rule : goal.take_in-requires-clause-rule
take_in-requires-clause-rule c =
    rule_is c.args.ip c.args.depth c.args.hop c.prefix_of.result c.prefix_of.ensures (omega arith) c.if-depth-lt1.false c.if-depth-gt-MAX_DEPTH.false
    c.if-hop-gt-MAX_HOP.false

pub overwrite_shallower-requires-clause-deep : goal.overwrite_shallower-requires-clause-deep
overwrite_shallower-requires-clause-deep c =
    added_group c.args.self.now c.take_in.new.self c.args.ip c.args.depth c.args.hop c.prefix_of.result c.prefix_of.ensures c.if-depth-gt-MAX_DEPTH.false
    c.in_ok-take_in.ensures.0

pub returns-clause-kept : goal.returns-clause-kept
returns-clause-kept c =
    added_keeps c.args.self.now c.take_in.new.self c.overwrite_shallower.new.self c.args.ip c.args.depth c.args.hop c.prefix_of.result c.prefix_of.ensures
    c.if-depth-lt1.false c.if-depth-gt-MAX_DEPTH.false c.in_ok-take_in.ensures.0 c.overwrite_shallower.ensures.overwritten c.overwrite_shallower.ensures.rules
    c.overwrite_shallower.ensures.max_rules
