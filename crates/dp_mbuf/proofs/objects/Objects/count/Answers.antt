-- A pool has its number of objects, and a missing pool has none.
use Rattle.std.proofs.Common.{◌∙◌, sym, arith}
use Rattle.dp_mbuf.proofs.ObjectCalls.{counted, counted_none}
use Rattle.dp_mbuf.proofs.objects.Objects.count.Goals as goal

pub returns : goal.returns
returns c =
    c.count_in_slot.ensures ∙ counted _ _ _ c.args.pool _ c.self.view_is c.self.invariant c.from-k.ensures (omega (arith, c.if-k-ge-MAX_POOLS.false))

pub returns-then-k-ge-MAX_POOLS : goal.returns-then-k-ge-MAX_POOLS
returns-then-k-ge-MAX_POOLS c = sym (counted_none _ _ c.args.pool c.self.view_is c.self.invariant (omega (arith, c.if-k-ge-MAX_POOLS.true)))
