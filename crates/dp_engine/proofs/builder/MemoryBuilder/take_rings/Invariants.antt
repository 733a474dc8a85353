use Rattle.std.proofs.Common.{◌≡◌, ◌+◌, ◌*◌, length, take, drop}
use Rattle.dp_engine.specs.Names.{AllBefore, first_of}
use Rattle.dp_engine.specs.Needs.{ring_bytes, total}
use Rattle.dp_engine.specs.Memories.{AreFilled, IsNewRing}
use Rattle.dp_engine.proofs.builder.MemoryBuilder.take_rings.Given as goal

abbrev pub invariant-loop-k : goal.invariant-loop-k
invariant-loop-k l = record {
  left : l.self.left + total ring_bytes l.counts ≡ l.initial.self.left + total ring_bytes (drop l.k l.counts);
  same : (l.self.home ≡ l.initial.self.home) × (l.self.size ≡ l.initial.self.size) × (l.self.spare ≡ l.initial.self.spare);
  names : AllBefore (first_of l.kind + 10 * l.k) l.self.names;
  many : length l.self.names ≡ length l.initial.self.names + l.k;
  slots : length l.rings ≡ 8;
  filled : AreFilled (IsNewRing l.initial.self.home) (take l.k l.counts) l.rings;
}
