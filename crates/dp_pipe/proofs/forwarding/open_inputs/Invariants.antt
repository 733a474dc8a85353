-- `open_inputs`: which of the inputs so far are open.
use Rattle.dp_pipe.proofs.Rounding.{AreOpenBelow}
use Rattle.dp_pipe.proofs.forwarding.open_inputs.Given as goal

abbrev pub invariant-loop-port : goal.invariant-loop-port
invariant-loop-port l = AreOpenBelow l.port l.open l.inputs
