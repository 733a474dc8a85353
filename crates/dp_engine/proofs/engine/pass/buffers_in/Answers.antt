use Rattle.std.proofs.Common.{◌∙◌, ◌+◌, ap, arith}
use Rattle.std.proofs.lemmas.List.Sums.{sum_by-take-le}
use Rattle.std.proofs.lemmas.List.{take_all}
use Rattle.dp_model.specs.declared.env.PoolSpec.{PoolSpec}
use Rattle.dp_engine.specs.Batches.{all_buffers}
use Rattle.dp_engine.proofs.Batches.{buffers_next}
use Rattle.dp_engine.proofs.engine.pass.buffers_in.Goals as goal

pub overflow_add-count : goal.overflow_add-count
overflow_add-count c =
    let more = buffers_next c.args.pools.now c.loop-pool.pool-index c.loop-pool-test.true in
    omega (arith, c.requires, c.loop-pool.invariant, more, sum_by-take-le (λ (p : PoolSpec). p.count) c.args.pools.now (c.loop-pool.pool-index + 1))

pub loop-pool-preserved : goal.loop-pool-preserved
loop-pool-preserved c = omega (arith, c.loop-pool.invariant, buffers_next c.args.pools.now c.loop-pool.pool-index c.loop-pool-test.true)

pub returns : goal.returns
returns c = c.loop-pool.invariant ∙ ap all_buffers (take_all c.loop-pool.pool-index c.args.pools.now c.loop-pool-test.false)
