-- The heap stays over its region.
use Rattle.std.proofs.Common.{◌≡◌}
use Rattle.layers_tests.proofs.tests.pools.differs_at.Given as goal

abbrev pub invariant-loop-k : goal.invariant-loop-k
invariant-loop-k l = l.heap.home ≡ l.fn.heap.home
