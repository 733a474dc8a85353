-- The zones of the pool are those at the start.
use Rattle.std.proofs.Common.{◌≡◌}
use Rattle.layers_tests.proofs.tests.pools.number_all.Given as goal

abbrev pub invariant-loop-index : goal.invariant-loop-index
invariant-loop-index l = l.pool.zones ≡ l.fn.pool.zones
