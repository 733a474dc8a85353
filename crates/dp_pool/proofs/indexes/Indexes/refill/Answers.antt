-- The queue's front is then in the cache, and the same indexes are in.
use Rattle.std.proofs.Common.{◌≡◌, min, ◌++◌, length, take, drop, sym, ap, ap₂, ◌∙◌, arith, length-append}
use lib.Seq.{length-take-le}
use Rattle.dp_pool.specs.Once.{absent}
use Rattle.dp_pool.specs.Queues.{in_count}
use Rattle.dp_pool.specs.contracts.indexes.Indexes.{the_view}
use Rattle.dp_pool.proofs.Once.{absent_same}
use Rattle.dp_pool.proofs.Effects.{moved_in}
use Rattle.dp_pool.proofs.Views.{view_of, with_state}
use Rattle.dp_pool.proofs.Steps.{in_count_parts}
use Rattle.dp_pool.proofs.indexes.Indexes.refill.Goals as goal

pub returns : goal.returns
returns c =
    let n = c.self.inside.count in
    let old = c.self.inside.cached.items in
    let queue = c.self.inside.queue.entries in
    let number = c.min-number.result in
    let is_min = c.min-number.ensures in
    let queued = c.count.ensures in
    let all = in_count_parts n old queue c.self.invariant.0 in
    let empty : length old ≡ 0 = ap (λ v. v.cached) c.self.view_is ∙ c.requires in
    let moved : length c.move_in.new.cached.items ≡ number =
    ap length c.move_in.ensures.cached
    ∙ (length-append old (take number queue)
    ∙ (let long = length-take-le number queue (omega (arith, is_min, queued)) in omega (arith, empty, long))) in
    let cached : length c.move_in.new.cached.items ≡ min c.self.inside.cache (in_count (the_view c.self.inside).out) = moved
    ∙ (is_min ∙ ap (λ k. min c.self.inside.cache k) (omega (arith, queued, all, empty))) in
    let out : absent n (c.move_in.new.cached.items ++ c.move_in.new.queue.entries) ≡ absent n (old ++ queue) =
    ap₂ (λ xs ys. absent n (xs ++ ys)) c.move_in.ensures.cached (ap (λ q. q.entries) c.move_in.ensures.queue)
    ∙ absent_same n (old ++ queue) ((old ++ take number queue) ++ drop number queue) (λ i. moved_in old queue number i) in
    ap (view_of c.self.inside.cache n c.move_in.new.cached.items) c.move_in.ensures.queue
    ∙ (ap₂ (with_state (view_of c.self.inside.cache n old c.self.inside.queue)) cached
    (ap (λ q. absent n (c.move_in.new.cached.items ++ q.entries)) (sym c.move_in.ensures.queue) ∙ out)
    ∙ ap (λ v. with_state v (min v.cache (in_count v.out)) v.out) c.self.view_is)
