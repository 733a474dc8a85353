use Rattle.std.proofs.Common.{◌≡◌, map, take}
use Rattle.dp_engine.proofs.needs.list_counts.Given as goal

abbrev pub invariant-loop-port : goal.invariant-loop-port
invariant-loop-port l = l.counts.items ≡ map (λ p. p.queue) (take l.port-index l.ports)
