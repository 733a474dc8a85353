-- The first header has the number of segments.
use Rattle.dp_mbuf.proofs.Live.{same_store, live_object, segments_is}
use Rattle.dp_mbuf.proofs.mbufs.Mbufs.segments.Goals as goal

pub first_header-requires : goal.first_header-requires
first_header-requires c = live_object _ _ c.args.packet.now (same_store c.self.view_is) c.self.invariant c.requires

pub returns : goal.returns
returns c = rw c.from.ensures (segments_is _ _ c.args.packet.now (same_store c.self.view_is) c.self.invariant _ c.first_header.ensures)
