-- Each step marks one slot more.
use Rattle.std.proofs.Common.{rules}
use Rattle.dp_mbuf.proofs.ClearingFirst.{has_header, over_done}
use Rattle.dp_mbuf.proofs.objects.Objects.over.Goals as goal

pub clear_firsts-requires : goal.clear_firsts-requires
clear_firsts-requires c =
    has_header _ c.args.pools _ _ _ (search rules) c.requires.first c.loop-slot.invariant c.loop-slot-test.true c.in-Some.is

pub invariant_of-result : goal.invariant_of-result
invariant_of-result c =
    (over_done _ c.args.pools _ (search rules) c.requires.first c.requires.objects c.loop-slot.invariant c.loop-slot-test.false).0

pub returns : goal.returns
returns c =
    (over_done _ c.args.pools _ (search rules) c.requires.first c.requires.objects c.loop-slot.invariant c.loop-slot-test.false).1
