-- Zeros before the first segment: the headroom is derived once.
use Rattle.std.proofs.Common.{◌≤◌, refl, ap, arith}
use Rattle.dp_model.specs.Environments.{room_at}
use Rattle.dp_mbuf.proofs.Live.{same_store, live_object}
use Rattle.dp_mbuf.proofs.InHand.{object_after}
use Rattle.dp_mbuf.proofs.Bytes.{first_part, before_first, prepended_done}
use Rattle.dp_mbuf.proofs.mbufs.Mbufs.prepend.Goals as goal
use Rattle.dp_mbuf.proofs.mbufs.Mbufs.prepend.Goals.{After-first_header-head}

-- that many bytes are free at the front
free : (c : After-first_header-head) → c.args.n ≤ c.first_header-head.result.offset
free c =
    let (k, has, (fits, _)) = c.requires in
    before_first _ _ c.args.packet.now (same_store c.self.view_is) c.self.invariant _ c.args.n c.first_header-head.ensures (k, has, fits)

pub first_header-head-requires : goal.first_header-head-requires
first_header-head-requires c = live_object _ _ c.args.packet.now (same_store c.self.view_is) c.self.invariant (c.requires.0, c.requires.1, tt)

pub overflow_sub-offset : goal.overflow_sub-offset
overflow_sub-offset c = free (goal.at.overflow_sub-offset c).After-first_header-head

pub zero-requires-clause-object : goal.zero-requires-clause-object
zero-requires-clause-object c =
    object_after _ _ _ c.set_bounds.ensures.specs (first_part _ _ c.args.packet.now (same_store c.self.view_is) c.self.invariant _ c.requires.0
    c.first_header-head.ensures c.requires.1).object

pub zero-requires-clause-fits : goal.zero-requires-clause-fits
zero-requires-clause-fits c =
    let b = free (goal.at.zero-requires-clause-fits c).After-first_header-head in
    let f = (first_part _ _ c.args.packet.now (same_store c.self.view_is) c.self.invariant _ c.requires.0 c.first_header-head.ensures c.requires.1).fits in
    let same = ap (λ s. room_at s c.first_header-head.result.buffer.pool) c.set_bounds.ensures.specs in
    omega (arith, b, f, same)

pub overflow_add-head : goal.overflow_add-head
overflow_add-head c =
    let b = free (goal.at.overflow_add-head c).After-first_header-head in
    let f = first_part _ _ c.args.packet.now (same_store c.self.view_is) c.self.invariant _ c.requires.0 c.first_header-head.ensures c.requires.1 in
    omega (arith, b, f.fits, f.small)

pub set_bounds-requires : goal.set_bounds-requires
set_bounds-requires c =
    rw c.first_number.ensures (live_object _ _ c.args.packet.now (same_store c.self.view_is) c.self.invariant (c.requires.0, c.requires.1, tt))

pub invariant_of-self : goal.invariant_of-self
invariant_of-self c =
    let (k, has, _) = c.requires in
    let b = free (goal.at.invariant_of-self c).After-first_header-head in
    let set = rw c.first_number.ensures at c.set_bounds.ensures in
    let zeros = rw (c.from.ensures, c.from-2.ensures) at c.zero.ensures in
    (prepended_done _ _ c.args.packet.now (same_store c.self.view_is) c.self.invariant _ _ _ c.args.n _ c.first_header-head.ensures
    (k, has, tt) b refl set zeros).0

pub returns-clause-packets : goal.returns-clause-packets
returns-clause-packets c =
    let (k, has, _) = c.requires in
    let b = free (goal.at.returns-clause-packets c).After-first_header-head in
    let set = rw c.first_number.ensures at c.set_bounds.ensures in
    let zeros = rw (c.from.ensures, c.from-2.ensures) at c.zero.ensures in
    (prepended_done _ _ c.args.packet.now (same_store c.self.view_is) c.self.invariant _ _ _ c.args.n _ c.first_header-head.ensures
    (k, has, tt) b refl set zeros).1
