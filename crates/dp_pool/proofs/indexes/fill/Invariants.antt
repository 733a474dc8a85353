-- The indexes so far are in the queue.
use Rattle.std.proofs.Common.{◌≡◌}
use Rattle.dp_pool.specs.Once.{upto}
use Rattle.dp_pool.proofs.indexes.fill.Given as goal

abbrev pub invariant-loop-index : goal.invariant-loop-index
invariant-loop-index l = l.queue ≡ record l.initial.queue { entries = upto l.index }
