-- The slot has a pool, since it exists.
use Rattle.std.proofs.Common.{◌≡◌, arith}
use Rattle.dp_mbuf.specs.Objects.{present, pool_in}
use Rattle.dp_mbuf.proofs.ObjectLemmas.{present_at, present_below, first_at}
use Rattle.dp_mbuf.proofs.objects.pool_at.Goals as goal

pub listed : goal.listed
listed c = omega (arith, c.requires.there, present_below c.args.pools.now)

pub bounds-pools-from : goal.bounds-pools-from
bounds-pools-from c = omega (arith, c.requires.there, c.type_inv.pools, present_below c.args.pools.now)

pub proved-requires : goal.proved-requires
proved-requires c =
    let e = present_at c.args.pools.now c.args.k c.index-pools-from.result c.requires.there in absurd cc

pub returns-clause-value : goal.returns-clause-value
returns-clause-value c =
    let e = present_at c.args.pools.now c.args.k c.index-pools-from.result c.requires.there in cc

pub returns-clause-rooms : goal.returns-clause-rooms
returns-clause-rooms c =
    let some = present_at c.args.pools.now c.args.k c.index-pools-from.result c.requires.there in
    let e : c.in-Some.pool ≡ pool_in (present c.args.pools.now) c.args.k = cc in
    rw e (first_at c.args.pools.now c.args.k c.requires.first c.requires.there)
