-- The buffers of the pools so far.
use Rattle.std.proofs.Common.{◌≡◌, ◌≤◌, ◌*◌, ◌^◌, take}
use Rattle.std.specs.List.{sum_by}
use Rattle.dp_model.proofs.env.count_of.Given as goal

abbrev pub invariant-loop-pool : goal.invariant-loop-pool
invariant-loop-pool l = (l.count ≡ sum_by (λ p. p.count) (take l.pool-index l.pools)) × (l.count ≤ l.pool-index * 2 ^ 32)
