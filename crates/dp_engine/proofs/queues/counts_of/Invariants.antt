-- The counts so far are right.
use Rattle.std.proofs.Common.{◌≡◌, ◌<◌, ℕ, length}
use Rattle.std.specs.Prelude.{slice_index_or}
use Rattle.dp_engine.specs.Queues.{ring_at}
use Rattle.dp_engine.proofs.queues.counts_of.Given as goal

abbrev pub invariant-loop-k : goal.invariant-loop-k
invariant-loop-k l = record {
  many : length l.counts ≡ 8;
  each : (j : ℕ) → j < l.k → slice_index_or l.counts j 0 ≡ length (ring_at l.lists j).entries;
  room : (j : ℕ) → j < l.k → length (ring_at l.lists j).entries < (ring_at l.lists j).count;
}
