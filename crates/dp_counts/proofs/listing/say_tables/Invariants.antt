-- The lines so far were said.
use Rattle.std.proofs.Common.{Some}
use Rattle.dp_console.specs.Replies.{Says}
use Rattle.dp_counts.specs.Totals.{table_lines}
use Rattle.dp_counts.proofs.listing.say_tables.Given as goal

abbrev pub invariant-loop-table : goal.invariant-loop-table
invariant-loop-table l = Says l.initial.out l.out (Some (table_lines l.counts l.sources l.table-counter))
