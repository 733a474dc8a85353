-- No packet begins at an object of the slots so far.
use Rattle.dp_mbuf.proofs.ClearingFirst.{SlotsTo}
use Rattle.dp_mbuf.proofs.objects.Objects.over.Given as goal

abbrev pub invariant-loop-slot : goal.invariant-loop-slot
invariant-loop-slot l = SlotsTo l.slot-index l.fn.pools l.slot-items
