use Rattle.std.proofs.Common.{◌≤◌}
use Rattle.dp_bench.proofs.routes.add_all.Given as goal

abbrev pub invariant-loop : goal.invariant-loop
invariant-loop l = l.added ≤ l.counter
