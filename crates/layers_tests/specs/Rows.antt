-- What the calls of tests on packets keep, over three pools of mbufs.
use Rattle.std.specs.Prelude.{◌≡◌, ℕ, ◌+◌, ◌<◌, false, length, List, Option, Some, None, replicate}
use Rattle.std.specs.List.{AllByRecursion}
use Rattle.dp_model.specs.Environments.{room_at}
use Rattle.dp_model.specs.Stores.{Store}
use Rattle.dp_mbuf.specs.declared.limits.TheConstants.{HEADER_SIZE, HEADROOM}
use Rattle.dp_mbuf.specs.Mbufs.{MbufsView}
use Rattle.dp_region.specs.Ownership.{Home}
use Rattle.dp_pool.specs.Pools.{PoolZones, PoolView}

-- there are three pools, and the first two have room to receive into
pub record IsOver (s : Store) : Type 0 where
  pub three : length s.pools ≡ 3
  pub rooms : (k : ℕ) → k < 2 → HEADROOM < room_at s.pools k

-- that still holds, and the zones are the same
pub record StaysOver (old new : MbufsView) : Type 0 where
  pub over : IsOver new.store
  pub zones : new.zones ≡ old.zones

-- all zones are of one region
abbrev pub AreIn : Home → List PoolZones → Type 0
AreIn home zones = AllByRecursion (λ z. z.home ≡ home) zones

-- so are those of the slot's pool, if it has one
abbrev pub SlotIn : Home → Option PoolView → Type 0
SlotIn home None = Unit {0}
SlotIn home (Some p) = p.zones.home ≡ home

-- a pool of n objects for mbufs with data rooms of `room` bytes, all in, in zones of the region
pub record IsReadyPool (n room : ℕ) (region : Home) (p : PoolView) : Type 0 where
  pub size : p.size ≡ room + HEADER_SIZE
  pub count : length p.objects ≡ n
  pub all_in : p.out ≡ replicate n false
  pub home : p.zones.home ≡ region
