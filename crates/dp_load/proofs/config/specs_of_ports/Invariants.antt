-- `specs_of_ports`: what the environment has of the ports so far.
use Rattle.std.proofs.Common.{◌≡◌, take, map}
use Rattle.dp_load.proofs.config.specs_of_ports.Given as goal

abbrev pub invariant-loop-port : goal.invariant-loop-port
invariant-loop-port l = l.specs.items ≡ map (λ p. p.spec) (take l.port-index l.ports)
