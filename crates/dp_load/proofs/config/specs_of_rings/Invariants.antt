-- `specs_of_rings`: what the environment has of the rings so far.
use Rattle.std.proofs.Common.{◌≡◌, take, map}
use Rattle.dp_load.proofs.config.specs_of_rings.Given as goal

abbrev pub invariant-loop-ring : goal.invariant-loop-ring
invariant-loop-ring l = l.specs.items ≡ map (λ r. r.spec) (take l.ring-index l.rings)
