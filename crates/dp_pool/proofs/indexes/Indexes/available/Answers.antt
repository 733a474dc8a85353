-- Those of the cache and those of the queue add up.
use Rattle.std.proofs.Common.{rules, ◌≡◌, ◌+◌, ◌≤◌, sym, ap, ◌∙◌, arith, length}
use Rattle.dp_pool.specs.Queues.{in_count}
use Rattle.dp_pool.proofs.Steps.{in_count_parts, few_parts}
use Rattle.dp_pool.proofs.indexes.Indexes.available.Goals as goal

pub overflow_add-result : goal.overflow_add-result
overflow_add-result c =
    let few = few_parts c.self.inside.count c.self.inside.cached.items c.self.inside.queue.entries c.self.invariant.0 in
    let cached = c.len.ensures.value in
    let queued = c.count.ensures in
    let (_, _, _, _, _, most) = c.self.invariant in
    let small : c.len.result + c.count.result ≤ 65535 = omega (arith, few, cached, queued, most) in
    search (rules, small)

pub returns : goal.returns
returns c =
    let all = in_count_parts c.self.inside.count c.self.inside.cached.items c.self.inside.queue.entries c.self.invariant.0 in
    let cached = c.len.ensures.value in
    let queued = c.count.ensures in
    let sum : c.len.result + c.count.result ≡ length c.self.inside.cached.items + length c.self.inside.queue.entries = omega (arith, cached, queued) in
    sum ∙ (sym all ∙ ap (λ v. in_count v.out) c.self.view_is)
