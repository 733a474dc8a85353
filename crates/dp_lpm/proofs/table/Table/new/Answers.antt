-- All entries are empty, and all groups free.
use Rattle.dp_lpm.proofs.Emptiness.{emptied}
use Rattle.dp_lpm.proofs.table.Table.new.Goals as goal

pub returns : goal.returns
returns c =
    emptied _ c.args.groups c.of-empty.result c.requires c.of-empty.ensures c.in_ok-filled.ensures.items c.in_ok-filled-2.ensures.items
    c.in_ok-filled-3.ensures.items c.in_ok-filled.ensures.room c.in_ok-filled-2.ensures.room c.in_ok-filled-3.ensures.room
