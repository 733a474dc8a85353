-- The first k segments are cloned and linked.
use Rattle.std.proofs.Common.{◌≡◌}
use Rattle.dp_model.specs.Packets.{Packet}
use Rattle.dp_model.specs.Stores.{Has}
use Rattle.dp_mbuf.specs.Objects.{zones_of}
use Rattle.dp_mbuf.proofs.Cloning.{Cloning}
use Rattle.dp_mbuf.proofs.mbufs.Mbufs.clone_of.Given as goal

abbrev pub invariant-loop-i : goal.invariant-loop-i
invariant-loop-i l = record {
  packets : (p : Packet) → Has l.fn.self.store l.packet p → Cloning l.self-inside.objects l.fn.self.store l.packet p l.fn.pool l.first l.last l.from l.i;
  zones : zones_of l.self-inside.objects ≡ l.fn.self.zones;
}
