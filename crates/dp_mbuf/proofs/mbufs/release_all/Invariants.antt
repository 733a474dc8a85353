-- The first k mbufs are released.
use Rattle.std.proofs.Common.{ℕ, ◌≡◌}
use Rattle.dp_model.specs.Stores.{Store}
use Rattle.dp_mbuf.specs.Objects.{zones_of}
use Rattle.dp_mbuf.specs.Mbufs.{Freeing}
use Rattle.dp_mbuf.proofs.mbufs.release_all.Given as goal

abbrev pub invariant-loop-i : goal.invariant-loop-i
invariant-loop-i l = record {
  packets : (v : Store) (h : ℕ) → Freeing l.fn.objects l.fn.first 0 l.count v h → Freeing l.objects l.mbuf l.i l.count v h;
  zones : zones_of l.objects ≡ zones_of l.fn.objects;
}
