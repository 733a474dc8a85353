-- Each call has one cost fewer.
use Rattle.std.proofs.Common.{length}
use Rattle.dp_cost.proofs.costs.+greatest.Given as goal

abbrev pub decreases-greatest : goal.decreases-greatest
decreases-greatest l = length l.costs.now
