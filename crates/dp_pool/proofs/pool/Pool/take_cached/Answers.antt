-- What the indexes hand out the pool hands out.
use Rattle.std.proofs.Common.{◌∙◌, subst, arith}
use Rattle.dp_pool.specs.Pools.{AreGot}
use Rattle.dp_pool.proofs.Pools.{pool_of}
use Rattle.dp_pool.proofs.Bulk.{handed_got, handed_keeps}
use Rattle.dp_pool.proofs.pool.Pool.take_cached.Goals as goal

pub invariant_of-self : goal.invariant_of-self
invariant_of-self c =
    let kept = handed_keeps c.take_cached.new.indexes c.self.inside.indexes c.take_cached.new.self c.take_cached.ensures.handed in
    let (count, some, few, size_some, size_few, stride, room, home, cache, two_thirds) = c.self.invariant in (
      kept.count ∙ count,
      some,
      few,
      size_some,
      size_few,
      stride,
      room,
      kept.home ∙ home,
      omega (arith, kept.cache, cache),
      omega (arith, kept.cache, two_thirds),
    )

pub returns-clause-got : goal.returns-clause-got
returns-clause-got c =
    subst (λ p. AreGot p c.take_cached.new.indexes (pool_of c.self.inside.objects c.take_cached.new.self c.self.inside.count c.self.inside.size)) c.self.view_is
    (handed_got c.self.inside.objects c.self.inside.size c.self.inside.count c.take_cached.new.indexes c.self.inside.indexes c.take_cached.new.self
    c.take_cached.ensures.handed)
