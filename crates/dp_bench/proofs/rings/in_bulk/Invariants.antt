use Rattle.std.proofs.Common.{◌≡◌}
use Rattle.dp_bench.proofs.rings.in_bulk.Given as goal

abbrev pub invariant-loop : goal.invariant-loop
invariant-loop l = (l.moved ≡ l.counter) × (l.ring ≡ l.initial.ring)
