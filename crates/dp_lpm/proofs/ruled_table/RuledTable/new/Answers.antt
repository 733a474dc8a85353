-- No rules, and empty entries.
use Rattle.dp_lpm.proofs.Starting.{begun}
use Rattle.dp_lpm.proofs.ruled_table.RuledTable.new.Goals as goal

pub returns-clause-kept : goal.returns-clause-kept
returns-clause-kept c =
    begun (record { rules = c.in-Ok.rules; table = c.in_ok-table.table; max_rules = c.args.max_rules }) c.args.groups c.in_ok-table.ensures
    c.in-Ok.ensures.items c.requires.rules c.in-Ok.ensures.exact
