use Rattle.std.proofs.Common.{◌≡◌, take}
use Rattle.dp_engine.specs.Batches.{widest}
use Rattle.dp_engine.proofs.engine.pass.widest_room.Given as goal

abbrev pub invariant-loop-pool : goal.invariant-loop-pool
invariant-loop-pool l = l.room ≡ widest (take l.pool-index l.pools)
