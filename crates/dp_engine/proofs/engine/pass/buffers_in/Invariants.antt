use Rattle.std.proofs.Common.{◌≡◌, take}
use Rattle.dp_engine.specs.Batches.{all_buffers}
use Rattle.dp_engine.proofs.engine.pass.buffers_in.Given as goal

abbrev pub invariant-loop-pool : goal.invariant-loop-pool
invariant-loop-pool l = l.count ≡ all_buffers (take l.pool-index l.pools)
