-- A buffer with other references has one fewer.
use Rattle.std.proofs.Common.{◌-◌}
use Rattle.dp_mbuf.specs.Objects.{header_at}
use Rattle.dp_mbuf.proofs.InHand.{less_set, one_reference_less}
use Rattle.dp_mbuf.proofs.steps.drop_one_of.Goals as goal

pub returns-else-refs-eq1 : goal.returns-else-refs-eq1
returns-else-refs-eq1 c =
    let less =
    one_reference_less c.args.refs (header_at c.args.objects.now c.args.b).refs c.requires.refs c.requires.some
    c.if-refs-eq1.false in
    let set = rw c.requires.refs at c.set_refs.ensures in
    less_set c.args.objects.now _ c.args.b ((header_at c.args.objects.now c.args.b).refs - 1) set less.0 less.1
