-- Pools with all objects in and no packet at any of them are a store without packets.
use Rattle.dp_mbuf.proofs.Starting.{new_is}
use Rattle.dp_mbuf.proofs.mbufs.Mbufs.over.Goals as goal

pub invariant_of-result : goal.invariant_of-result
invariant_of-result c = (new_is c.args.pools _ c.over.ensures c.requires).0

pub returns : goal.returns
returns c = (new_is c.args.pools _ c.over.ensures c.requires).1
