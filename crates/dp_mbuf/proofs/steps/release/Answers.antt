-- The buffer still exists when the mbuf is put back.
use Rattle.dp_mbuf.proofs.InHand.{object_after}
use Rattle.dp_mbuf.proofs.steps.release.Goals as goal

pub drop_reference-requires-clause-object : goal.drop_reference-requires-clause-object
drop_reference-requires-clause-object c =
    rw c.header-header.ensures (object_after c.args.objects.now _ _ c.put_mbuf.ensures.fewer.specs c.requires.buffer)
