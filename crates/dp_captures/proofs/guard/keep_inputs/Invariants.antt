-- The inputs so far.
use Rattle.std.proofs.Common.{◌≡◌, ◌++◌, map, take}
use Rattle.dp_captures.specs.Guarding.{input_target, targets}
use Rattle.dp_captures.proofs.guard.keep_inputs.Given as goal

abbrev pub invariant-loop-port : goal.invariant-loop-port
invariant-loop-port g l = targets l.kept.items ≡ targets l.initial.kept.items ++ map input_target (take l.port l.inputs)
