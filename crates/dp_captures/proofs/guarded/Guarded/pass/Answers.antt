-- The count follows the bytes that were taken.
use Rattle.dp_captures.proofs.Took.{piece_passes}
use Rattle.dp_captures.proofs.guarded.Guarded.pass.Goals as goal

pub invariant_of-self-clause-counted : goal.invariant_of-self-clause-counted
invariant_of-self-clause-counted g c =
    piece_passes _ _ _ _ _ c.args.self.now.counted c.and-self.ensures c.pass.ensures.order c.pass.ensures.beyond
