use Rattle.std.proofs.Common.{◌≡◌}
use Rattle.dp_bench.proofs.pools.pairs.Given as goal

abbrev pub invariant-loop : goal.invariant-loop
invariant-loop l = record {
  served : l.served ≡ l.counter;
  out : l.pool.out ≡ l.initial.pool.out;
  zones : l.pool.zones ≡ l.initial.pool.zones;
}
