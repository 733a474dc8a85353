-- With no packet left all objects are in their pools.
use Rattle.dp_mbuf.proofs.Starting.{back_is}
use Rattle.dp_mbuf.proofs.mbufs.Mbufs.into_pools.Goals as goal

pub returns : goal.returns
returns c = back_is _ _ _ c.self.view_is c.self.invariant c.requires c.into_pools.ensures.same c.into_pools.ensures.first
