-- The bytes so far fill the segments so far.
use Rattle.std.proofs.Common.{◌≡◌}
use Rattle.dp_mbuf.specs.Objects.{zones_of}
use Rattle.dp_mbuf.proofs.Receiving.{Receiving}
use Rattle.dp_mbuf.proofs.mbufs.Mbufs.receive_many.Given as goal

abbrev pub invariant-loop-i : goal.invariant-loop-i
invariant-loop-i l = record {
  packets : Receiving l.self-inside.objects l.fn.self.store l.pool l.full l.bytes l.first l.last l.rest l.i;
  zones : zones_of l.self-inside.objects ≡ l.fn.self.zones;
}
