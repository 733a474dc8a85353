-- The first k numbers are written.
use Rattle.std.proofs.Common.{◌≡◌, ℕ, ◌+◌, ◌*◌, ◌<◌}
use Rattle.std.specs.Prelude.{slice_index}
use Rattle.dp_region.specs.Region.{number_at}
use Rattle.dp_ring.proofs.runs.write_numbers.Given as goal

abbrev pub invariant-loop-k : goal.invariant-loop-k
invariant-loop-k l = (j : ℕ) → j < l.k → number_at l.bytes (4 * (0 + j)) 4 ≡ slice_index l.numbers j
