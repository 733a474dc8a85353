use Rattle.std.proofs.Common.{◌≡◌, ◌≤◌}
use Rattle.dp_bench.proofs.pools.in_bulk.Given as goal

abbrev pub invariant-loop : goal.invariant-loop
invariant-loop l = (l.served ≤ l.counter) × (l.pool.zones ≡ l.initial.pool.zones)
