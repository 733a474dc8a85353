-- The first header leads to the last, which has the length of the last segment.
use Rattle.dp_mbuf.proofs.Live.{same_store, live_object, last_object, last_length_is}
use Rattle.dp_mbuf.proofs.mbufs.Mbufs.last_len.Goals as goal

pub last_header-requires-clause-first : goal.last_header-requires-clause-first
last_header-requires-clause-first c = live_object _ _ c.args.packet.now (same_store c.self.view_is) c.self.invariant c.requires

pub last_header-requires-clause-last : goal.last_header-requires-clause-last
last_header-requires-clause-last c = last_object _ _ c.args.packet.now (same_store c.self.view_is) c.self.invariant c.requires

pub returns : goal.returns
returns c = last_length_is _ _ c.args.packet.now (same_store c.self.view_is) c.self.invariant _ c.last_header.ensures
