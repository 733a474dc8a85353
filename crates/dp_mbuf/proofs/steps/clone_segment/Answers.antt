-- The segment's buffer has one reference more, and a new mbuf has its header.
use Rattle.std.proofs.Common.{◌∙◌}
use Rattle.dp_mbuf.proofs.InHand.{object_after}
use Rattle.dp_mbuf.proofs.steps.clone_segment.Goals as goal

pub header-refs-requires : goal.header-refs-requires
header-refs-requires c =
    rw c.header-source.ensures
    (object_after c.args.objects.now _ _ (c.set_header.ensures.specs ∙ c.take_one-n.ensures.taken.specs) c.requires.buffer)

pub set_refs-requires : goal.set_refs-requires
set_refs-requires c =
    rw c.header-source.ensures
    (object_after c.args.objects.now _ _ (c.set_header.ensures.specs ∙ c.take_one-n.ensures.taken.specs) c.requires.buffer)
