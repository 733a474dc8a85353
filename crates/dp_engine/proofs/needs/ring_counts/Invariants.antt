use Rattle.std.proofs.Common.{◌≡◌, map, take}
use Rattle.dp_engine.proofs.needs.ring_counts.Given as goal

abbrev pub invariant-loop-ring : goal.invariant-loop-ring
invariant-loop-ring l = l.counts.items ≡ map (λ r. r.count) (take l.ring-index l.rings)
