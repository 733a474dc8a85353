-- `set_states`: the states so far.
use Rattle.std.proofs.Common.{◌≡◌, map, take}
use Rattle.dp_pipe.specs.Running.{with_states}
use Rattle.dp_pipe.proofs.running.set_states.Given as goal

abbrev pub invariant-loop-port : goal.invariant-loop-port
invariant-loop-port l = l.ports ≡ with_states (take l.port (map (λ p. p.state) l.inputs)) l.fn.ports
