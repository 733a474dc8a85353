-- The objects lie in the zone, and each index is in or out.
use Rattle.std.proofs.Common.{subst}
use Rattle.dp_pool.specs.Pools.{IsPool, PoolZones}
use Rattle.dp_pool.proofs.Pools.{is_pool}
use Rattle.dp_pool.proofs.pool.Pool.count.Goals as goal

pub returns-clause-pool : goal.returns-clause-pool
returns-clause-pool c =
    let zones : PoolZones = record {
      home = c.self.inside.objects.home;
      object_name = c.self.inside.objects.name;
      object_offset = c.self.inside.objects.offset;
      queue_name = c.self.inside.indexes.name;
      queue_offset = c.self.inside.indexes.offset;
    } in
    let (count, some, few, size_some, size_few, _, room, _, cache, two_thirds) = c.self.invariant in
    let small = rw c.bytes.ensures at c.are_small.ensures in
    subst IsPool c.self.view_is (is_pool c.self.inside.size c.self.inside.indexes.cache c.self.inside.indexes.cached c.self.inside.count
    c.self.inside.objects.bytes c.self.inside.indexes.out zones count some few room small (size_some, size_few) (cache, two_thirds))
