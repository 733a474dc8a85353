-- The remaining blocks are the heap's, and no others are out.
use Rattle.std.proofs.Common.{◌≡◌, All, length}
use Rattle.dp_heap.specs.Elements.{count_of, is_busy}
use Rattle.dp_script.proofs.session.Session.end.Given as goal

abbrev pub invariant-loop-block : goal.invariant-loop-block
invariant-loop-block l = All (λ h. h.block.home ≡ l.heap.home) l.held.items × (count_of is_busy l.heap.elements ≡ length l.held.items)

abbrev pub decreases-loop-block : goal.decreases-loop-block
decreases-loop-block l = goal.left-loop-block l
