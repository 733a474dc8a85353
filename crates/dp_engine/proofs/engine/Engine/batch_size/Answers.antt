-- The bytes of all buffers are few.
use Rattle.std.proofs.Common.{◌*◌, ◌≤◌, ◌∙◌, ap, arith}
use Rattle.std.proofs.Math.Nat.{mul-le-mul}
use Rattle.dp_model.specs.Environments.{Environment}
use Rattle.dp_engine.specs.Batches.{all_buffers, widest}
use Rattle.dp_engine.specs.Laws.{known}
use Rattle.dp_engine.proofs.Batches.{widest_small}
use Rattle.dp_engine.proofs.engine.Engine.batch_size.Goals as goal

pub overflow_mul-result : goal.overflow_mul-result
overflow_mul-result g c =
    let env = c.self.inside.context.setting.env in
    let same = c.pools-pools.ensures.same ∙ ap (λ (e : Environment). e.pools) c.env.ensures.same in
    let k = known env c.self.invariant.within in
    let most : all_buffers env.pools * widest env.pools ≤ 65535 * 4096 = mul-le-mul k.mbufs (widest_small env.pools k.pools_fit) in
    rw (c.buffers_in-records.ensures, c.widest_room.ensures, same) (omega (arith, most))
