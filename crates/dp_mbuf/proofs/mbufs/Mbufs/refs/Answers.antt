-- The header of the segment's buffer has its references.
use Rattle.std.proofs.Common.{◌<◌, length, ap, ◌∙◌}
use Rattle.dp_model.specs.Packets.{refs}
use Rattle.dp_model.specs.Stores.{segments_of}
use Rattle.dp_mbuf.proofs.Live.{same_store}
use Rattle.dp_mbuf.proofs.Reading.{has_walk, links_of, part, part_there, nth_is}
use Rattle.dp_mbuf.proofs.mbufs.Mbufs.refs.Goals as goal
use Rattle.std.proofs.lemmas.Option.{slice_get_within}

pub mbuf_at-requires : goal.mbuf_at-requires
mbuf_at-requires c = rw c.first_number.ensures (has_walk _ _ c.args.packet.now (same_store c.self.view_is) c.self.invariant c.args.k c.requires)

pub header-segment-requires : goal.header-segment-requires
header-segment-requires c =
    let walk = rw c.first_number.ensures at c.mbuf_at.ensures in
    (part_there _ _ c.args.packet.now (same_store c.self.view_is) c.self.invariant _ c.args.k c.requires walk).object

pub header-requires : goal.header-requires
header-requires c =
    let walk = rw c.first_number.ensures at c.mbuf_at.ensures in
    rw c.header-segment.ensures
    (part_there _ _ c.args.packet.now (same_store c.self.view_is) c.self.invariant _ c.args.k c.requires walk).buffer

pub returns : goal.returns
returns c = λ k has s is.
    let walk = rw c.first_number.ensures at c.mbuf_at.ensures in
    let b : c.args.k < length k = slice_get_within k c.args.k s is in
    let q = part _ _ c.args.packet.now (same_store c.self.view_is) c.self.invariant k _ c.args.k has b
    (walk k (links_of _ _ c.args.packet.now (same_store c.self.view_is) c.self.invariant k has) b) in
    let header = rw c.header-segment.ensures at c.header.ensures in
    ap (λ h. h.refs) header ∙ (q.refs ∙ ap (λ t. refs (segments_of c.args.self.now.store) t.buffer) (nth_is k c.args.k s q.seg q.rest is q.is))
