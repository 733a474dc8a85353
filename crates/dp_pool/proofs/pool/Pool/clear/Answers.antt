-- The bytes are written at the object's offset in the zone.
use Rattle.std.proofs.Common.{ℕ, replicate, arith}
use Rattle.std.proofs.lemmas.List.{length-replicate}
use Rattle.dp_pool.proofs.Pools.{index_below, pool_written}
use Rattle.dp_pool.proofs.pool.Pool.clear.Goals as goal

pub offset_of-offset-requires-clause-there : goal.offset_of-offset-requires-clause-there
offset_of-offset-requires-clause-there c = index_below c.self.inside.objects c.self.inside.indexes c.self.inside.count c.self.inside.size c.args.index
    c.args.self.now c.self.view_is c.requires.object

pub returns : goal.returns
returns c =
    let (all, some, few, size_some, size_few, stride, room, home, cache, two_thirds) = c.self.invariant in
    pool_written c.self.inside.objects c.self.inside.indexes c.self.inside.count c.self.inside.size c.args.index c.args.self.now c.self.view_is
    c.requires.object
    c.args.at (replicate c.args.len 0) c.offset_of-offset.result c.clear.new.self c.offset_of-offset.ensures.value (let long =
    length-replicate {A = ℕ} c.args.len 0 in let fits = c.requires.fits in omega (arith, long, fits)) room c.clear.ensures
