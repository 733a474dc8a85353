-- The ring stays in its zone.
use Rattle.std.proofs.Common.{◌≡◌}
use Rattle.layers_tests.proofs.tests.rings.differs.Given as goal

abbrev pub invariant-loop-k : goal.invariant-loop-k
invariant-loop-k l = l.ring.home ≡ l.fn.ring.home
