-- Adding a program changes no count.
use Rattle.dp_counts.specs.Counting.{HasNone}
use Rattle.dp_counts.proofs.counting.Counting.of.Given as goal

abbrev pub invariant-loop-k : goal.invariant-loop-k
invariant-loop-k l = HasNone l.counts
