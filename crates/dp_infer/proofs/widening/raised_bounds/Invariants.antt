-- The bounds so far are raised.
use Rattle.dp_infer.specs.Widening.{raised}
use Rattle.dp_infer.proofs.Pairing.{IsPairedTo}
use Rattle.dp_infer.proofs.widening.raised_bounds.Given as goal

abbrev pub invariant-loop-i : goal.invariant-loop-i
invariant-loop-i l = IsPairedTo (raised l.program l.slow) l.i l.greater l.before l.now
