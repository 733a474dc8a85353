-- The bytes of a segment lie in its buffer from its offset on.
use Rattle.std.proofs.Common.{◌<◌, length, ap, arith, ◌∙◌}
use Rattle.dp_model.specs.Packets.{Segment, segment_bytes}
use Rattle.dp_mbuf.specs.Objects.{buffers_of}
use Rattle.dp_mbuf.proofs.Live.{same_store}
use Rattle.dp_mbuf.proofs.Reading.{has_walk, links_of, part, part_there, nth_is}
use Rattle.dp_mbuf.proofs.mbufs.Mbufs.segment_bytes.Goals as goal
use Rattle.std.proofs.lemmas.Option.{slice_get_within}

pub mbuf_at-requires : goal.mbuf_at-requires
mbuf_at-requires c = rw c.first_number.ensures (has_walk _ _ c.args.packet.now (same_store c.self.view_is) c.self.invariant c.args.k c.requires)

pub header-segment-requires : goal.header-segment-requires
header-segment-requires c =
    let walk = rw c.first_number.ensures at c.mbuf_at.ensures in
    (part_there _ _ c.args.packet.now (same_store c.self.view_is) c.self.invariant _ c.args.k c.requires walk).object

pub bytes_in_segment-requires-clause-object : goal.bytes_in_segment-requires-clause-object
bytes_in_segment-requires-clause-object c =
    let walk = rw c.first_number.ensures at c.mbuf_at.ensures in
    rw c.header-segment.ensures
    (part_there _ _ c.args.packet.now (same_store c.self.view_is) c.self.invariant _ c.args.k c.requires walk).buffer

pub bytes_in_segment-requires-clause-fits : goal.bytes_in_segment-requires-clause-fits
bytes_in_segment-requires-clause-fits c =
    let walk = rw c.first_number.ensures at c.mbuf_at.ensures in
    rw c.header-segment.ensures
    (part_there _ _ c.args.packet.now (same_store c.self.view_is) c.self.invariant _ c.args.k c.requires walk).fits

pub returns-clause-value : goal.returns-clause-value
returns-clause-value c = λ k has s is.
    let walk = rw c.first_number.ensures at c.mbuf_at.ensures in
    let b : c.args.k < length k = slice_get_within k c.args.k s is in
    let q = part _ _ c.args.packet.now (same_store c.self.view_is) c.self.invariant k _ c.args.k has b
    (walk k (links_of _ _ c.args.packet.now (same_store c.self.view_is) c.self.invariant k has) b) in
    let bytes = rw c.header-segment.ensures at c.bytes_in_segment.ensures.value in
    bytes
    ∙ (ap (λ (t : Segment). segment_bytes (buffers_of c.self.inside.objects) t) (q.segment ∙ nth_is k c.args.k s q.seg q.rest is q.is)
    ∙ ap (λ v. segment_bytes v.buffers s) (same_store c.self.view_is))

pub returns-clause-bound : goal.returns-clause-bound
returns-clause-bound c =
    let walk = rw c.first_number.ensures at c.mbuf_at.ensures in
    let q = part_there _ _ c.args.packet.now (same_store c.self.view_is) c.self.invariant _ c.args.k c.requires walk in
    let many = rw c.header-segment.ensures at c.bytes_in_segment.ensures.many in
    omega (arith, many, q.small)
