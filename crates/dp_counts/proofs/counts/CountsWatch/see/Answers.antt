-- Goals that the search alone does not find.
use Rattle.std.proofs.Common.{arith}
use Rattle.std.proofs.lemmas.Grind.{common_steps}
use Rattle.dp_counts.proofs.counts.CountsWatch.see.Goals as goal

pub invariant_of-self-in-To : goal.invariant_of-self-in-To
invariant_of-self-in-To c = grind (arith, common_steps)

pub invariant_of-self-in-Out : goal.invariant_of-self-in-Out
invariant_of-self-in-Out c = grind (arith, common_steps)

pub invariant_of-self-in-Cut : goal.invariant_of-self-in-Cut
invariant_of-self-in-Cut c = grind (arith, common_steps)
