-- The greater bound so far.
use Rattle.std.proofs.Common.{max}
use Rattle.dp_infer.proofs.Pairing.{IsPairedTo}
use Rattle.dp_infer.proofs.join.greater_bounds.Given as goal

abbrev pub invariant-loop-i : goal.invariant-loop-i
invariant-loop-i l = IsPairedTo max l.i l.greater l.bounds l.others
