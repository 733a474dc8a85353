-- What comes back into the object comes back into the zone.
use Rattle.std.proofs.Common.{refl, ap, ◌∙◌, arith}
use Rattle.dp_region.specs.Spans.{bytes_in}
use Rattle.dp_pool.proofs.Pools.{index_below, object_bytes, pool_left, left_alone}
use Rattle.dp_pool.proofs.pool.Pool.object_mut.Goals as goal

pub offset_of-offset-requires-clause-there : goal.offset_of-offset-requires-clause-there
offset_of-offset-requires-clause-there c = index_below c.self.inside.objects c.self.inside.indexes c.self.inside.count c.self.inside.size c.args.index
    c.args.self.now c.self.view_is c.requires

pub part_mut-requires : goal.part_mut-requires
part_mut-requires c =
    let (all, some, few, size_some, size_few, stride, room, home, cache, two_thirds) = c.self.invariant in
    omega (arith, c.offset_of-offset.ensures.end, room)

pub returns : goal.returns
returns c =
    let zone = c.self.inside.objects in
    let indexes = c.self.inside.indexes in
    let count = c.self.inside.count in
    let size = c.self.inside.size in
    let now = c.args.self.now in
    let (all, some, few, size_some, size_few, stride, room, home, cache, two_thirds) = c.self.invariant in
    let offset = c.offset_of-offset.ensures.value in (
      (refl, pool_left zone indexes count size c.args.index now c.self.view_is c.requires c.offset_of-offset.result offset room),
      record {
        writes_back = tt;
        value = c.part_mut.ensures.value ∙ (ap (λ p. bytes_in zone.bytes p size) offset
            ∙ object_bytes zone indexes count size c.args.index now c.self.view_is c.requires);
        size = c.part_mut.ensures.size ∙ ap (λ v. v.size) c.self.view_is;
        whole = left_alone zone indexes count size c.args.index now c.self.view_is c.requires room;
      },
    )
