use Rattle.std.proofs.Common.{◌≡◌, ◌≤◌}
use Rattle.dp_bench.proofs.blocks.pairs.Given as goal

abbrev pub invariant-loop : goal.invariant-loop
invariant-loop l = (l.served ≤ l.counter) × (l.heap ≡ l.initial.heap)
