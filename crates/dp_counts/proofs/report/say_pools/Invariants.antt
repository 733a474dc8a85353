-- The lines so far were said.
use Rattle.std.proofs.Common.{take, Some}
use Rattle.dp_console.specs.Replies.{Says}
use Rattle.dp_counts.specs.{Report.pool_line, Totals.lines_from}
use Rattle.dp_counts.proofs.report.say_pools.Given as goal

abbrev pub invariant-loop-k : goal.invariant-loop-k
invariant-loop-k l = Says l.initial.out l.out (Some (lines_from pool_line 0 (take l.k-counter l.pools)))
