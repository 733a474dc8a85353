-- A group's entries lie within those of all groups.
use Rattle.std.proofs.Common.{arith, ◌/◌, ◌%◌}
use Rattle.dp_lpm.proofs.Entries.{grouped_by, group_fits}
use Rattle.dp_lpm.proofs.table.Table.entry_for.Goals as goal

pub index-requires-in-Group : goal.index-requires-in-Group
index-requires-in-Group c =
    let named = grouped_by c.args.self.now (c.args.ip / 256) c.in-Group.group c.index.result.now (omega arith) c.index.ensures (c.in-Group.ensures) in
    let fits = group_fits c.args.self.now (c.args.ip / 256) c.in-Group.group (c.args.ip % 256) c.requires named (omega arith) in
    omega (arith, fits)
