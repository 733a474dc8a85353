-- The bytes are written at the object's offset in the zone.
use Rattle.dp_pool.proofs.Pools.{index_below, pool_written}
use Rattle.dp_pool.proofs.pool.Pool.write.Goals as goal

pub offset_of-offset-requires-clause-there : goal.offset_of-offset-requires-clause-there
offset_of-offset-requires-clause-there c = index_below c.self.inside.objects c.self.inside.indexes c.self.inside.count c.self.inside.size c.args.index
    c.args.self.now c.self.view_is c.requires.object

pub returns : goal.returns
returns c =
    let (all, some, few, size_some, size_few, stride, room, home, cache, two_thirds) = c.self.invariant in
    pool_written c.self.inside.objects c.self.inside.indexes c.self.inside.count c.self.inside.size c.args.index c.args.self.now c.self.view_is
    c.requires.object
    c.args.at c.args.bytes.now c.offset_of-offset.result c.write.new.self c.offset_of-offset.ensures.value c.requires.fits room c.write.ensures
