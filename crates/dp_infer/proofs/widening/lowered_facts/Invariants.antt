-- The facts so far are lowered.
use Rattle.dp_infer.specs.Widening.{lowered_fact}
use Rattle.dp_infer.proofs.Pairing.{IsPairedTo}
use Rattle.dp_infer.proofs.widening.lowered_facts.Given as goal

abbrev pub invariant-loop-i : goal.invariant-loop-i
invariant-loop-i l = IsPairedTo (lowered_fact l.program l.slow) l.i l.lowered l.before l.now
