-- There are as many routes as rules.
use Rattle.dp_lpm.proofs.Looking.{is_table}
use Rattle.dp_lpm.proofs.ruled_table.RuledTable.len.Goals as goal

pub returns-clause-table : goal.returns-clause-table
returns-clause-table c = is_table c.args.self.now c.requires
