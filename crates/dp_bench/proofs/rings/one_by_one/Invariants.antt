use Rattle.std.proofs.Common.{◌≡◌}
use Rattle.dp_bench.proofs.rings.one_by_one.Given as goal

abbrev pub invariant-loop-number : goal.invariant-loop-number
invariant-loop-number l = (l.moved ≡ l.number) × (l.ring ≡ l.initial.ring)
