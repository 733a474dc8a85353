-- What is put back to the indexes is put back to the pool.
use Rattle.std.proofs.Common.{◌∙◌, length, ap, subst, sym, arith}
use Rattle.dp_pool.specs.Queues.{AreOut}
use Rattle.dp_pool.specs.Pools.{all_back}
use Rattle.dp_pool.proofs.Pools.{pool_of}
use Rattle.dp_pool.proofs.Bulk.{back_keeps, returned_back, returned_keeps}
use Rattle.dp_pool.proofs.pool.Pool.put_bulk.Goals as goal

pub put_all-requires : goal.put_all-requires
put_all-requires c = subst (λ p. AreOut p.out c.args.indexes.now) (sym c.self.view_is) c.requires

pub invariant_of-self : goal.invariant_of-self
invariant_of-self c =
    let is = c.args.indexes.now in
    let kept = returned_keeps is c.self.inside.indexes in
    let new = c.put_all.ensures in
    let same = ap (λ v. v.cache) new ∙ kept.cache in
    let (count, some, few, size_some, size_few, stride, room, home, cache, two_thirds) = c.self.invariant in (
      ap (λ v. length v.out) new ∙ (kept.count ∙ count),
      some,
      few,
      size_some,
      size_few,
      stride,
      room,
      ap (λ v. v.home) new ∙ (kept.home ∙ home),
      omega (arith, same, cache),
      omega (arith, same, two_thirds),
    )

pub returns-clause-back : goal.returns-clause-back
returns-clause-back c =
    ap (λ v. pool_of c.self.inside.objects v c.self.inside.count c.self.inside.size) c.put_all.ensures
    ∙ (returned_back c.self.inside.objects c.self.inside.size c.self.inside.count c.args.indexes.now c.self.inside.indexes
    ∙ ap (λ p. all_back p c.args.indexes.now) c.self.view_is)

pub returns-clause-same : goal.returns-clause-same
returns-clause-same c = back_keeps c.args.indexes.now c.args.self.now (pool_of c.self.inside.objects c.put_all.new.self c.self.inside.count
    c.self.inside.size) (returns-clause-back c)
