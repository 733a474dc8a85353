-- The packet is sole exactly if the segments from here on are.
use Rattle.std.proofs.Common.{drop}
use Rattle.dp_model.specs.Packets.{Packet, IsSole}
use Rattle.dp_model.specs.Stores.{Has, segments_of}
use Rattle.dp_mbuf.specs.Objects.{header_at}
use Rattle.dp_mbuf.specs.Mbufs.{Linked}
use Rattle.dp_mbuf.proofs.mbufs.Mbufs.is_sole.Given as goal

abbrev pub invariant-loop-i : goal.invariant-loop-i
invariant-loop-i l =
    (p : Packet) → Has l.fn.self.store l.packet p → Linked (header_at l.self-inside.objects) l.mbuf (drop l.i p)
    × (IsSole (segments_of l.fn.self.store) (drop l.i p) → IsSole (segments_of l.fn.self.store) p)
