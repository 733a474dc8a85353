use Rattle.std.proofs.Common.{◌≡◌, map, take}
use Rattle.dp_engine.specs.Needs.{ring_bytes}
use Rattle.dp_cli.proofs.sizes.ring_sizes.Given as goal

abbrev pub invariant-loop-ring : goal.invariant-loop-ring
invariant-loop-ring l = l.sizes.items ≡ map (λ r. ring_bytes r.count) (take l.ring-index l.rings)
