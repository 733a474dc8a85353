-- The range is that of the prefix.
use Rattle.std.proofs.Common.{◌-◌, arith}
use Rattle.std.proofs.lemmas.Nat.{one_shl}
use Rattle.dp_lpm.proofs.Ranges.{range_even, range_is, size_large, start_first}
use Rattle.dp_lpm.proofs.ruled_table.RuledTable.overwrite_shallower.Goals as goal

pub overwrite_shallower-requires-clause-range : goal.overwrite_shallower-requires-clause-range
overwrite_shallower-requires-clause-range c =
    let size = one_shl (32 - c.args.depth) 32 (omega arith) in
    rw (size, range_is c.args.ip c.args.depth) (range_even c.args.ip c.args.depth (omega arith) c.requires.most)

pub overwrite_shallower-requires-clause-part : goal.overwrite_shallower-requires-clause-part
overwrite_shallower-requires-clause-part c few =
    let size = one_shl (32 - c.args.depth) 32 (omega arith) in
    let deep = size_large c.args.depth (omega (arith, size, few)) in
    rw (size, range_is c.args.ip c.args.depth, start_first c.args.ip c.args.depth deep c.requires.most) (c.requires.deep deep)

pub returns-clause-overwritten : goal.returns-clause-overwritten
returns-clause-overwritten c =
    let size = one_shl (32 - c.args.depth) 32 (omega arith) in
    rw (size, range_is c.args.ip c.args.depth, c.of.ensures) at c.overwrite_shallower.ensures
