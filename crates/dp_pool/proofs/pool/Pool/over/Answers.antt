-- The numbers are those that are given.
use Rattle.std.proofs.Common.{false, length, refl, ap, ◌∙◌, arith}
use Rattle.std.proofs.lemmas.List.{length-replicate}
use Rattle.dp_pool.proofs.Objects.{length-objects}
use Rattle.dp_pool.proofs.pool.Pool.over.Goals as goal

pub returns-clause-numbers : goal.returns-clause-numbers
returns-clause-numbers c = (
  refl,
  ap (λ v. v.cache) c.over.ensures,
  ap (λ v. v.cached) c.over.ensures,
  length-objects c.args.objects.bytes c.args.numbers.size 0 c.args.numbers.count,
  ap (λ v. v.out) c.over.ensures,
)

pub invariant_of-result : goal.invariant_of-result
invariant_of-result c =
    let (count, size, cache) = c.requires.numbers in
    let new = c.over.ensures in
    let same = ap (λ v. v.cache) new in (
      ap (λ v. length v.out) new ∙ length-replicate c.args.numbers.count false,
      count.0,
      count.1,
      size.0,
      size.1,
      c.stride_of.ensures,
      c.requires.room,
      ap (λ v. v.home) new ∙ (ap (λ r. r.home) c.over-ring.ensures ∙ c.requires.home),
      omega (arith, same, cache.0),
      omega (arith, same, cache.1),
    )
