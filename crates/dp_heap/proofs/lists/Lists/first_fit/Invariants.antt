-- The elements that the walk has passed have no room for the block, and the list ends.
use Rattle.std.proofs.Common.{length}
use Rattle.dp_heap.proofs.Walk.{steps_left, Walked}
use Rattle.dp_heap.proofs.lists.Lists.first_fit.Given as goal

abbrev pub invariant-loop-offset : goal.invariant-loop-offset
invariant-loop-offset l = Walked l.region.bytes l.class l.len l.align l.offset

abbrev pub decreases-loop-offset : goal.decreases-loop-offset
decreases-loop-offset l = steps_left (length l.region.bytes) l.region.bytes l.offset
