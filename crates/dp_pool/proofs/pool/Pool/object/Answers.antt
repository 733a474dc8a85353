-- The object is at its offset in the zone.
use Rattle.std.proofs.Common.{◌≡◌, ◌+◌, ◌-◌, take, drop, ap, ap₂, ◌∙◌, arith}
use Rattle.dp_region.specs.Spans.{bytes_in}
use Rattle.dp_pool.proofs.Pools.{index_below, object_bytes}
use Rattle.dp_pool.proofs.pool.Pool.object.Goals as goal

pub offset_of-offset-requires-clause-there : goal.offset_of-offset-requires-clause-there
offset_of-offset-requires-clause-there c = index_below c.self.inside.objects c.self.inside.indexes c.self.inside.count c.self.inside.size c.args.index
    c.args.self.now c.self.view_is c.requires

pub returns-clause-value : goal.returns-clause-value
returns-clause-value c =
    let offset = c.offset_of-offset.result in
    let size = c.self.inside.size in
    let long : offset + size - offset ≡ size = omega arith in
    ap₂ (λ n xs. take n (drop offset xs)) long c.bytes.ensures
    ∙ (ap (λ p. bytes_in c.self.inside.objects.bytes p size) c.offset_of-offset.ensures.value
    ∙ object_bytes c.self.inside.objects c.self.inside.indexes c.self.inside.count size c.args.index c.args.self.now c.self.view_is c.requires)
