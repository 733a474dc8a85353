-- No packet is left where all objects are in their pools.
use Rattle.dp_mbuf.proofs.Live.{same_store}
use Rattle.dp_mbuf.proofs.Starting.{empty_iff}
use Rattle.dp_mbuf.proofs.mbufs.Mbufs.is_empty.Goals as goal

pub returns : goal.returns
returns c = empty_iff _ _ _ (same_store c.self.view_is) c.self.invariant c.are_all_in.ensures
