-- The first header has the headroom: the offset of the first segment.
use Rattle.dp_mbuf.proofs.Live.{same_store, live_object, headroom_is}
use Rattle.dp_mbuf.proofs.mbufs.Mbufs.headroom.Goals as goal

pub first_header-requires : goal.first_header-requires
first_header-requires c = live_object _ _ c.args.packet.now (same_store c.self.view_is) c.self.invariant c.requires

pub returns : goal.returns
returns c = headroom_is _ _ c.args.packet.now (same_store c.self.view_is) c.self.invariant _ c.first_header.ensures
