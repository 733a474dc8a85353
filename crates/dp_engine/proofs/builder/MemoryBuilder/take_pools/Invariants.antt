use Rattle.std.proofs.Common.{◌≡◌, ◌+◌, ◌*◌, length, take, drop}
use Rattle.dp_engine.specs.Names.{AllBefore, first_pool}
use Rattle.dp_engine.specs.Needs.{pool_bytes, total}
use Rattle.dp_engine.specs.Memories.{AreFilled, IsNewPool}
use Rattle.dp_engine.proofs.builder.MemoryBuilder.take_pools.Given as goal

abbrev pub invariant-loop-k : goal.invariant-loop-k
invariant-loop-k l = record {
  left : l.self.left + total pool_bytes l.specs ≡ l.initial.self.left + total pool_bytes (drop l.k l.specs);
  same : (l.self.home ≡ l.initial.self.home) × (l.self.size ≡ l.initial.self.size) × (l.self.spare ≡ l.initial.self.spare);
  names : AllBefore (first_pool + 10 * l.k) l.self.names;
  many : length l.self.names ≡ length l.initial.self.names + 2 * l.k;
  slots : length l.pools ≡ 8;
  filled : AreFilled (IsNewPool l.initial.self.home) (take l.k l.specs) l.pools;
}
