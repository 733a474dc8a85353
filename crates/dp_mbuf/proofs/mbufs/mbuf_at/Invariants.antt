-- The segments from here on are linked from this mbuf.
use Rattle.std.proofs.Common.{◌<◌, length, drop}
use Rattle.dp_model.specs.Packets.{Packet}
use Rattle.dp_mbuf.specs.Objects.{header_at}
use Rattle.dp_mbuf.specs.Mbufs.{Linked}
use Rattle.dp_mbuf.proofs.mbufs.mbuf_at.Given as goal

abbrev pub invariant-loop-i : goal.invariant-loop-i
invariant-loop-i l =
    (p : Packet) → Linked (header_at l.objects) l.fn.first p → l.k < length p → Linked (header_at l.objects) l.mbuf (drop l.i p)
