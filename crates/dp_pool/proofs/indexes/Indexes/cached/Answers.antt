-- Those of the cache are some of those that are in.
use Rattle.std.proofs.Common.{◌≡◌, ◌+◌, sym, ap, ◌∙◌, arith, length}
use Rattle.dp_pool.specs.Queues.{in_count}
use Rattle.dp_pool.proofs.Steps.{in_count_parts}
use Rattle.dp_pool.proofs.indexes.Indexes.cached.Goals as goal

pub returns-clause-there : goal.returns-clause-there
returns-clause-there c =
    let all = in_count_parts c.self.inside.count c.self.inside.cached.items c.self.inside.queue.entries c.self.invariant.0 in
    let cached = c.len.ensures.value in
    let sum : length c.self.inside.cached.items + length c.self.inside.queue.entries ≡ in_count c.args.self.now.out = sym all
    ∙ ap (λ v. in_count v.out) c.self.view_is in
    omega (arith, cached, sum)
