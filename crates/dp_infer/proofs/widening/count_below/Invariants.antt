-- The counts so far, and the rest.
use Rattle.std.proofs.Common.{◌≡◌, drop}
use Rattle.dp_infer.specs.Widening.{count_from}
use Rattle.dp_infer.proofs.widening.count_below.Given as goal

abbrev pub invariant-loop-instr : goal.invariant-loop-instr
invariant-loop-instr l = count_from l.most l.below (drop l.instr-index l.program) ≡ count_from l.most 0 l.program
