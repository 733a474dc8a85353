-- Zeros after the last segment: the tailroom is derived once.
use Rattle.std.proofs.Common.{◌≡◌, ◌+◌, ◌≤◌, refl, ap, arith}
use Rattle.dp_model.specs.Environments.{room_at}
use Rattle.dp_mbuf.specs.Mbufs.{numbered}
use Rattle.dp_mbuf.specs.Objects.{header_at, specs_of, HasObject}
use Rattle.dp_mbuf.proofs.Live.{same_store, live_object, last_object}
use Rattle.dp_mbuf.proofs.InHand.{object_after}
use Rattle.dp_mbuf.proofs.Bytes.{after_last, appended_done}
use Rattle.dp_mbuf.proofs.mbufs.Mbufs.append.Goals as goal
use Rattle.dp_mbuf.proofs.mbufs.Mbufs.append.Goals.{After-header-tail}

-- the header is that of the last mbuf
last : (c : After-header-tail) → c.header-tail.result ≡ header_at c.self.inside.objects (header_at c.self.inside.objects (numbered c.args.packet.now)).last
last c = rw c.first_header-last.ensures at c.header-tail.ensures

-- that many bytes are free at the end
free : (c : After-header-tail) →
    (c.header-tail.result.offset + c.header-tail.result.len + c.args.n ≤ room_at (specs_of c.self.inside.objects) c.header-tail.result.buffer.pool)
    × HasObject c.self.inside.objects c.header-tail.result.buffer
    × (room_at (specs_of c.self.inside.objects) c.header-tail.result.buffer.pool ≤ 4096)
free c =
    let (k, has, (fits, _)) = c.requires in
    after_last _ _ c.args.packet.now (same_store c.self.view_is) c.self.invariant _ c.args.n (last c) (k, has, fits)

pub first_header-last-requires : goal.first_header-last-requires
first_header-last-requires c = live_object _ _ c.args.packet.now (same_store c.self.view_is) c.self.invariant (c.requires.0, c.requires.1, tt)

pub header-tail-requires : goal.header-tail-requires
header-tail-requires c =
    let (k, has, _) = c.requires in
    rw c.first_header-last.ensures (last_object _ _ c.args.packet.now (same_store c.self.view_is) c.self.invariant (k, has, tt))

pub zero-requires-clause-object : goal.zero-requires-clause-object
zero-requires-clause-object c =
    object_after _ _ _ c.set_bounds.ensures.specs (free (goal.at.zero-requires-clause-object c).After-header-tail).1

pub zero-requires-clause-fits : goal.zero-requires-clause-fits
zero-requires-clause-fits c =
    let fits = (free (goal.at.zero-requires-clause-fits c).After-header-tail).0 in
    let same = ap (λ s. room_at s c.header-tail.result.buffer.pool) c.set_bounds.ensures.specs in
    omega (arith, fits, same)

pub overflow_add-tail : goal.overflow_add-tail
overflow_add-tail c =
    omega (arith, free (goal.at.overflow_add-tail c).After-header-tail)

pub set_bounds-requires : goal.set_bounds-requires
set_bounds-requires c =
    let (k, has, _) = c.requires in
    rw c.first_header-last.ensures (last_object _ _ c.args.packet.now (same_store c.self.view_is) c.self.invariant (k, has, tt))

pub invariant_of-self : goal.invariant_of-self
invariant_of-self c =
    let (k, has, _) = c.requires in
    let b = (free (goal.at.invariant_of-self c).After-header-tail).0 in
    let set = rw c.first_header-last.ensures at c.set_bounds.ensures in
    let zeros = rw (c.from.ensures, c.from-2.ensures, c.from-3.ensures) at c.zero.ensures in
    (appended_done _ _ c.args.packet.now (same_store c.self.view_is) c.self.invariant _ _ _ c.args.n _
    (last (goal.at.invariant_of-self c).After-header-tail) (k, has, tt) b refl set zeros).0

pub returns-clause-packets : goal.returns-clause-packets
returns-clause-packets c =
    let (k, has, _) = c.requires in
    let b = (free (goal.at.returns-clause-packets c).After-header-tail).0 in
    let set = rw c.first_header-last.ensures at c.set_bounds.ensures in
    let zeros = rw (c.from.ensures, c.from-2.ensures, c.from-3.ensures) at c.zero.ensures in
    (appended_done _ _ c.args.packet.now (same_store c.self.view_is) c.self.invariant _ _ _ c.args.n _
    (last (goal.at.returns-clause-packets c).After-header-tail) (k, has, tt) b refl set zeros).1
