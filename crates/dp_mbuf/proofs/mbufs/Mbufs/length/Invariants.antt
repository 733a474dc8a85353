-- The sum so far plus the bytes from here on is the packet's length.
use Rattle.std.proofs.Common.{◌≡◌, ◌+◌, length, drop}
use Rattle.dp_model.specs.Packets.{Packet, packet_bytes}
use Rattle.dp_model.specs.Stores.{Has}
use Rattle.dp_mbuf.specs.Objects.{header_at}
use Rattle.dp_mbuf.specs.Mbufs.{Linked}
use Rattle.dp_mbuf.proofs.mbufs.Mbufs.length.Given as goal

abbrev pub invariant-loop-i : goal.invariant-loop-i
invariant-loop-i l =
    (p : Packet) → Has l.fn.self.store l.packet p → Linked (header_at l.self-inside.objects) l.mbuf (drop l.i p)
    × (l.total + length (packet_bytes l.fn.self.store.buffers (drop l.i p)) ≡ length (packet_bytes l.fn.self.store.buffers p))
