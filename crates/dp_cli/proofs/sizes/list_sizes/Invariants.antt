use Rattle.std.proofs.Common.{◌≡◌, map, take}
use Rattle.dp_engine.specs.Needs.{ring_bytes}
use Rattle.dp_cli.proofs.sizes.list_sizes.Given as goal

abbrev pub invariant-loop-port : goal.invariant-loop-port
invariant-loop-port l = l.sizes.items ≡ map (λ p. ring_bytes p.queue) (take l.port-index l.ports)
