-- The zones of the pool are those at the start.
use Rattle.std.proofs.Common.{◌≡◌}
use Rattle.layers_tests.proofs.tests.pools.differs.Given as goal

abbrev pub invariant-loop-k : goal.invariant-loop-k
invariant-loop-k l = l.pool.zones ≡ l.fn.pool.zones
