-- `value_at`: the member of a table.
use Rattle.toml.proofs.Views.{table_get}
use Rattle.dp_load.proofs.keys.value_at.Goals as goal

pub returns : goal.returns
returns c = table_get c.get.result c.args.key.now c.args.table.now.entries c.get.ensures.value
