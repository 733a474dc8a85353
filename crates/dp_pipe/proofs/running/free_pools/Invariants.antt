-- `free_pools`: the pools so far.
use Rattle.std.proofs.Common.{◌≡◌, map, take}
use Rattle.dp_pipe.proofs.running.free_pools.Given as goal

abbrev pub invariant-loop-spec : goal.invariant-loop-spec
invariant-loop-spec l = l.pools.items ≡ map (λ p. record { free = p.count; count = p.count }) (take l.spec-index l.specs)
