-- The lines so far were said.
use Rattle.std.proofs.Common.{take, Some}
use Rattle.dp_console.specs.Replies.{Says}
use Rattle.dp_counts.specs.Totals.{pool_lines}
use Rattle.dp_counts.proofs.listing.say_pools.Given as goal

abbrev pub invariant-loop-k : goal.invariant-loop-k
invariant-loop-k l = Says l.initial.out l.out (Some (pool_lines l.levels (take l.k-counter l.pools)))
