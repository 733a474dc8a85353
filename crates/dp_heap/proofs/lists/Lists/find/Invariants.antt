-- No element of the lists before this one has room for the block.
use Rattle.std.proofs.Common.{◌-◌}
use Rattle.dp_heap.proofs.Walk.{Past}
use Rattle.dp_heap.proofs.lists.Lists.find.Given as goal

abbrev pub invariant-loop-class : goal.invariant-loop-class
invariant-loop-class l = Past l.region.bytes l.len l.align l.class

abbrev pub decreases-loop-class : goal.decreases-loop-class
decreases-loop-class l = 5 - l.class
