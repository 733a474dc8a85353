-- The bounds so far, and the rest.
use Rattle.std.proofs.Common.{◌≡◌, drop}
use Rattle.dp_model.specs.Arithmetic.{greatest}
use Rattle.dp_infer.specs.Widening.{bound_from}
use Rattle.dp_infer.proofs.widening.bound_above.Given as goal

abbrev pub invariant-loop-instr : goal.invariant-loop-instr
invariant-loop-instr l = bound_from l.least l.above (drop l.instr-index l.program) ≡ bound_from l.least greatest l.program
