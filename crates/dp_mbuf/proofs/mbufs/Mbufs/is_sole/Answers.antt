-- One segment after the other: each buffer so far has one reference, or one has another number.
use Rattle.std.proofs.Common.{◌≡◌, ◌<◌, length, refl, ap, arith, sym, ◌∙◌}
use Rattle.std.proofs.lemmas.List.{drop_all}
use Rattle.dp_model.specs.Packets.{Packet}
use Rattle.dp_model.specs.Stores.{Has}
use Rattle.dp_mbuf.specs.Objects.{header_at}
use Rattle.dp_mbuf.proofs.Live.{same_store, live_object}
use Rattle.dp_mbuf.proofs.Reading.{links_of, many_of, part, walk_next, sole_more, sole_not}
use Rattle.dp_mbuf.proofs.mbufs.Mbufs.is_sole.Goals as goal
use Rattle.dp_mbuf.proofs.mbufs.Mbufs.is_sole.Goals.{After-first_header-segs}

-- the first header has the number of segments
counted : (c : After-first_header-segs) (p : Packet) → Has c.args.self.now.store c.args.packet.now p → c.first_header-segs.result.segs ≡ length p
counted c p has =
    rw c.first_header-segs.ensures (many_of _ _ c.args.packet.now (same_store c.self.view_is) c.self.invariant p has).0

pub first_header-segs-requires : goal.first_header-segs-requires
first_header-segs-requires c = live_object _ _ c.args.packet.now (same_store c.self.view_is) c.self.invariant c.requires

pub loop-i-init : goal.loop-i-init
loop-i-init c = λ p has. (rw c.first_number-mbuf.ensures (links_of _ _ c.args.packet.now (same_store c.self.view_is) c.self.invariant p has), λ s. s)

pub header-segment-requires : goal.header-segment-requires
header-segment-requires c =
    (part _ _ c.args.packet.now (same_store c.self.view_is) c.self.invariant c.requires.0 _ c.loop-i.i c.requires.1
    (omega (arith, c.loop-i-test.true, counted (goal.at.header-segment-requires c).After-first_header-segs c.requires.0 c.requires.1))
    (c.loop-i.invariant c.requires.0 c.requires.1).0).object

pub header-buffer-requires : goal.header-buffer-requires
header-buffer-requires c =
    rw c.header-segment.ensures
    (part _ _ c.args.packet.now (same_store c.self.view_is) c.self.invariant c.requires.0 _ c.loop-i.i c.requires.1
    (omega (arith, c.loop-i-test.true, counted (goal.at.header-buffer-requires c).After-first_header-segs c.requires.0 c.requires.1))
    (c.loop-i.invariant c.requires.0 c.requires.1).0).buffer

pub loop-i-preserved : goal.loop-i-preserved
loop-i-preserved c = λ p has.
    let b : c.loop-i.i < length p = omega (arith, c.loop-i-test.true, counted (goal.at.loop-i-preserved c).After-first_header-segs p has) in
    let now = c.loop-i.invariant p has in
    let buffer = rw c.header-segment.ensures at c.header-buffer.ensures in
    let one = sym (ap (λ h. h.refs) buffer) ∙ c.if-buffer-ne1.false in (
      rw c.header-segment.ensures (walk_next (header_at c.self.inside.objects) c.loop-i.mbuf c.loop-i.i p b now.0),
      sole_more _ _ c.args.packet.now (same_store c.self.view_is) c.self.invariant p c.loop-i.mbuf c.loop-i.i has b now.0 one now.1,
    )

pub returns-then-buffer-ne1 : goal.returns-then-buffer-ne1
returns-then-buffer-ne1 c = λ p has.
    let b : c.loop-i.i < length p = omega (arith, c.loop-i-test.true, counted (goal.at.returns-then-buffer-ne1 c).After-first_header-segs p has) in
    let now = c.loop-i.invariant p has in
    let buffer = rw c.header-segment.ensures at c.header-buffer.ensures in (
      λ t. absurd (cc),
      λ sole. absurd (sole_not _ _ c.args.packet.now (same_store c.self.view_is) c.self.invariant p c.loop-i.mbuf c.loop-i.i has b now.0
          (λ e. c.if-buffer-ne1.true (ap (λ h. h.refs) buffer ∙ e)) sole),
    )

pub returns : goal.returns
returns c = λ p has.
    let now = c.loop-i.invariant p has in
    let none = drop_all c.loop-i.i p (omega (arith, c.loop-i-test.false, counted (goal.at.returns c).After-first_header-segs p has)) in
    (λ _. now.1 (rw none tt), λ _. refl)
