-- The sum so far.
use Rattle.std.proofs.Common.{◌≡◌}
use Rattle.dp_counts.specs.Counting.{ran_at}
use Rattle.dp_counts.proofs.counts.Counts.step.Given as goal

abbrev pub invariant-loop-before : goal.invariant-loop-before
invariant-loop-before l = l.ran ≡ ran_at l.self l.place l.before
