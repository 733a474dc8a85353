-- Each step marks one object more.
use Rattle.std.proofs.Common.{arith}
use Rattle.dp_mbuf.proofs.ClearingFirst.{firsts_cleared_more}
use Rattle.dp_mbuf.proofs.objects.clear_firsts.Goals as goal

pub loop-index-preserved : goal.loop-index-preserved
loop-index-preserved c =
    firsts_cleared_more _ _ _ c.loop-index.index _ c.loop-index.invariant (omega (arith, c.loop-index-test.true, c.count-index-end.ensures.value))
    c.bytes_of_word.ensures.bytes c.write.ensures
