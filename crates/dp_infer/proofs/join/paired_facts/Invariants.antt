-- The facts so far are joined.
use Rattle.dp_infer.specs.Joins.{joined_fact}
use Rattle.dp_infer.proofs.Pairing.{IsPairedTo}
use Rattle.dp_infer.proofs.join.paired_facts.Given as goal

abbrev pub invariant-loop-i : goal.invariant-loop-i
invariant-loop-i l = IsPairedTo joined_fact l.i l.joined l.facts l.others
