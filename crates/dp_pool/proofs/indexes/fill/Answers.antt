-- The next index is appended to the queue.
use Rattle.std.proofs.Common.{◌≡◌, suc, ◌+◌, ◌<◌, cond, [], ◌∷◌, length, ap, ◌∙◌, arith}
use Rattle.std.proofs.lemmas.Bool.{lt-ltb}
use Rattle.dp_ring.specs.Rings.{room_in, with_more}
use Rattle.dp_pool.specs.Once.{upto}
use Rattle.dp_pool.proofs.Upto.{length-upto}
use Rattle.dp_pool.proofs.indexes.fill.Goals as goal

pub loop-index-preserved : goal.loop-index-preserved
loop-index-preserved c =
    let i = c.loop-index.index in
    let one_more : suc i ≡ i + 1 = omega arith in
    let long : length c.loop-index.queue.entries ≡ i = ap (λ q. length q.entries) c.loop-index.invariant ∙ length-upto i in
    let count = ap (λ q. q.count) c.loop-index.invariant in
    let some : 0 < room_in c.loop-index.queue = omega (arith, long, count, c.loop-index-test.true, c.loop-index.auto.index-end, c.requires.room) in
    c.enqueue.ensures.entries
    ∙ (ap (λ t. cond t (with_more c.loop-index.queue (i ∷ [])) c.loop-index.queue) (lt-ltb 0 (room_in c.loop-index.queue) some)
    ∙ (ap (λ q. with_more q (i ∷ [])) c.loop-index.invariant
    ∙ ap (λ n. record c.args.queue.now { entries = upto n }) one_more))
