-- The lengths are added along the links, and never overflow.
use Rattle.std.proofs.Common.{◌<◌, length, ap, arith}
use Rattle.std.proofs.lemmas.List.{drop_all}
use Rattle.dp_model.specs.Packets.{packet_bytes}
use Rattle.dp_mbuf.specs.Objects.{header_at}
use Rattle.dp_mbuf.proofs.Live.{same_store, live_object}
use Rattle.dp_mbuf.proofs.Reading.{links_of, many_of, part, walk_next, length_more, length_few}
use Rattle.dp_mbuf.proofs.mbufs.Mbufs.length.Goals as goal

pub first_header-segs-requires : goal.first_header-segs-requires
first_header-segs-requires c = live_object _ _ c.args.packet.now (same_store c.self.view_is) c.self.invariant c.requires

pub loop-i-init : goal.loop-i-init
loop-i-init c = λ p has. (rw c.first_number-mbuf.ensures (links_of _ _ c.args.packet.now (same_store c.self.view_is) c.self.invariant p has), omega arith)

pub header-segment-requires : goal.header-segment-requires
header-segment-requires c =
    let many = many_of _ _ c.args.packet.now (same_store c.self.view_is) c.self.invariant c.requires.0 c.requires.1 in
    let segs = ap (λ h. h.segs) c.first_header-segs.ensures in
    (part _ _ c.args.packet.now (same_store c.self.view_is) c.self.invariant c.requires.0 _ c.loop-i.i c.requires.1
    (omega (arith, c.loop-i-test.true, many, segs)) (c.loop-i.invariant c.requires.0 c.requires.1).0).object

pub overflow_add-total : goal.overflow_add-total
overflow_add-total c =
    let so = (c.loop-i.invariant c.requires.0 c.requires.1).1 in
    omega (arith, so, length_few _ _ c.args.packet.now (same_store c.self.view_is) c.self.invariant c.requires.0 c.requires.1, c.header-segment.type_inv)

pub loop-i-preserved : goal.loop-i-preserved
loop-i-preserved c = λ p has.
    let many = many_of _ _ c.args.packet.now (same_store c.self.view_is) c.self.invariant p has in
    let segs = ap (λ h. h.segs) c.first_header-segs.ensures in
    let b : c.loop-i.i < length p = omega (arith, c.loop-i-test.true, many, segs) in
    let now = c.loop-i.invariant p has in
    rw (c.from-total.ensures, c.header-segment.ensures) (
      walk_next (header_at c.self.inside.objects) c.loop-i.mbuf c.loop-i.i p b now.0,
      length_more _ _ c.args.packet.now (same_store c.self.view_is) c.self.invariant p _ c.loop-i.i c.loop-i.total has b now.0 now.1,
    )

pub returns-clause-value : goal.returns-clause-value
returns-clause-value c = λ p has.
    let many = many_of _ _ c.args.packet.now (same_store c.self.view_is) c.self.invariant p has in
    let segs = ap (λ h. h.segs) c.first_header-segs.ensures in
    let done = c.loop-i.invariant p has in
    let none = ap (λ r. length (packet_bytes c.args.self.now.store.buffers r)) (drop_all c.loop-i.i p (omega (arith, c.loop-i-test.false, many, segs))) in
    omega (arith, done.1, none)

pub returns-clause-bound : goal.returns-clause-bound
returns-clause-bound c =
    let done = c.loop-i.invariant c.requires.0 c.requires.1 in
    omega (arith, done.1, length_few _ _ c.args.packet.now (same_store c.self.view_is) c.self.invariant c.requires.0 c.requires.1)
