-- `names_of_ports`: the names of the ports so far.
use Rattle.std.proofs.Common.{◌≡◌, take, map}
use Rattle.dp_load.specs.Config.{names_of_port}
use Rattle.dp_load.specs.Views.{port_part, port_names}
use Rattle.dp_load.proofs.config.names_of_ports.Given as goal

abbrev pub invariant-loop-port : goal.invariant-loop-port
invariant-loop-port l = map port_names l.names.items ≡ map (λ p. names_of_port (port_part p)) (take l.port-index l.ports)
