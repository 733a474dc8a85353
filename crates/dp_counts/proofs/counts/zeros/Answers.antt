-- Copies of zero are zero.
use Rattle.dp_counts.proofs.Tallies.{zeros_are}
use Rattle.dp_counts.proofs.counts.zeros.Goals as goal

pub returns-clause-zero : goal.returns-clause-zero
returns-clause-zero c = zeros_are c.in_ok-numbers.numbers.items 16384 (c.in_ok-numbers.ensures.items_if_clones_equal (λ y e. e))
