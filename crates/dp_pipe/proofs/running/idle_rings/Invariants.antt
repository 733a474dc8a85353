-- `idle_rings`: the rings so far.
use Rattle.std.proofs.Common.{◌≡◌, map, take}
use Rattle.dp_pipe.proofs.running.idle_rings.Given as goal

abbrev pub invariant-loop-spec : goal.invariant-loop-spec
invariant-loop-spec l = l.rings.items ≡ map (λ _. 0) (take l._spec-index l.specs)
