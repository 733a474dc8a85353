use Rattle.std.proofs.Common.{◌∙◌, ap, arith}
use Rattle.std.proofs.lemmas.List.{take_all}
use Rattle.dp_engine.specs.Batches.{widest}
use Rattle.dp_engine.proofs.Batches.{widest_next}
use Rattle.dp_engine.proofs.engine.pass.widest_room.Goals as goal

pub loop-pool-preserved : goal.loop-pool-preserved
loop-pool-preserved c =
    omega (arith, c.max-room.ensures, c.loop-pool.invariant, widest_next c.args.pools.now c.loop-pool.pool-index c.loop-pool-test.true)

pub returns : goal.returns
returns c = c.loop-pool.invariant ∙ ap widest (take_all c.loop-pool.pool-index c.args.pools.now c.loop-pool-test.false)
