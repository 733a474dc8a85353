-- Bytes are cut off the front of the first segment, which has that many.
use Rattle.std.proofs.Common.{arith}
use Rattle.dp_mbuf.proofs.Live.{same_store, live_object, first_fits, adj_done}
use Rattle.dp_mbuf.proofs.mbufs.Mbufs.adj.Goals as goal

pub first_header-head-requires : goal.first_header-head-requires
first_header-head-requires c = live_object _ _ c.args.packet.now (same_store c.self.view_is) c.self.invariant (c.requires.0, c.requires.1, tt)

pub overflow_add-head : goal.overflow_add-head
overflow_add-head c = omega (
  arith,
  first_fits _ _ c.args.packet.now (same_store c.self.view_is) c.self.invariant _ c.args.n c.first_header-head.ensures
      c.requires,
)

pub overflow_sub-head : goal.overflow_sub-head
overflow_sub-head c = omega (
  arith,
  first_fits _ _ c.args.packet.now (same_store c.self.view_is) c.self.invariant _ c.args.n c.first_header-head.ensures
      c.requires,
)

pub set_bounds-requires : goal.set_bounds-requires
set_bounds-requires c =
    rw c.first_number.ensures (live_object _ _ c.args.packet.now (same_store c.self.view_is) c.self.invariant (c.requires.0, c.requires.1, tt))

pub invariant_of-self : goal.invariant_of-self
invariant_of-self c =
    let set = rw (c.first_number.ensures, c.first_header-head.ensures) at c.set_bounds.ensures in
    (adj_done _ _ c.args.packet.now (same_store c.self.view_is) c.self.invariant _ c.args.n c.requires set).0

pub returns-clause-packets : goal.returns-clause-packets
returns-clause-packets c =
    let set = rw (c.first_number.ensures, c.first_header-head.ensures) at c.set_bounds.ensures in
    (adj_done _ _ c.args.packet.now (same_store c.self.view_is) c.self.invariant _ c.args.n c.requires set).1
