-- Bytes are cut off the end of the last segment, which has that many.
use Rattle.dp_mbuf.proofs.Live.{same_store, live_object, last_object, last_fits, trim_done}
use Rattle.dp_mbuf.proofs.mbufs.Mbufs.trim.Goals as goal

pub first_header-last-requires : goal.first_header-last-requires
first_header-last-requires c = live_object _ _ c.args.packet.now (same_store c.self.view_is) c.self.invariant (c.requires.0, c.requires.1, tt)

pub header-tail-requires : goal.header-tail-requires
header-tail-requires c =
    let (k, has, _) = c.requires in
    rw c.first_header-last.ensures (last_object _ _ c.args.packet.now (same_store c.self.view_is) c.self.invariant (k, has, tt))

pub overflow_sub-tail : goal.overflow_sub-tail
overflow_sub-tail c =
    let tail = rw c.first_header-last.ensures at c.header-tail.ensures in
    last_fits _ _ c.args.packet.now (same_store c.self.view_is) c.self.invariant _ c.args.n tail c.requires

pub set_bounds-requires : goal.set_bounds-requires
set_bounds-requires c =
    let (k, has, _) = c.requires in
    rw c.first_header-last.ensures (last_object _ _ c.args.packet.now (same_store c.self.view_is) c.self.invariant (k, has, tt))

pub invariant_of-self : goal.invariant_of-self
invariant_of-self c =
    let set = rw (c.header-tail.ensures, c.first_header-last.ensures) at c.set_bounds.ensures in
    (trim_done _ _ c.args.packet.now (same_store c.self.view_is) c.self.invariant _ c.args.n c.requires set).0

pub returns-clause-packets : goal.returns-clause-packets
returns-clause-packets c =
    let set = rw (c.header-tail.ensures, c.first_header-last.ensures) at c.set_bounds.ensures in
    (trim_done _ _ c.args.packet.now (same_store c.self.view_is) c.self.invariant _ c.args.n c.requires set).1
