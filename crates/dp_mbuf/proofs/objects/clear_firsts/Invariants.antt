-- No packet begins at the objects so far.
use Rattle.dp_mbuf.specs.Objects.{FirstsClearedTo}
use Rattle.dp_mbuf.proofs.objects.clear_firsts.Given as goal

abbrev pub invariant-loop-index : goal.invariant-loop-index
invariant-loop-index l = FirstsClearedTo l.index l.fn.pool l.pool
