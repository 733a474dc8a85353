-- What the rounds over mbufs keep.
use Rattle.std.specs.Prelude.{◌≡◌, ℕ, ◌≤◌, false, length, List, [], ◌∷◌, Option, Some, None, replicate}
use Rattle.dp_model.specs.Environments.{room_at}
use Rattle.dp_model.specs.Packets.{headroom, IsHeadSole}
use Rattle.dp_model.specs.Stores.{Store, HasSome, segments_of}
use Rattle.dp_region.specs.Ownership.{Home}
use Rattle.dp_pool.specs.Pools.{PoolView}
use Rattle.dp_mbuf.specs.Mbufs.{MbufsView}

-- the packets and the pools are as before, in their zones; bytes of no packet may differ
abbrev pub AreAsBefore : MbufsView → MbufsView → Type 0
AreAsBefore old new = (new.store.slots ≡ old.store.slots) × (new.store.pools ≡ old.store.pools) × (new.zones ≡ old.zones)

-- there is room for n bytes before the packet, and its first buffer has one reference
abbrev pub HasFront : Store → ℕ → ℕ → Type 0
HasFront s h n = HasSome s h (λ k. (n ≤ headroom k) × IsHeadSole (segments_of s) k)

-- the first pool has this room in each buffer
abbrev pub HasRoom : Store → Type 0
HasRoom s = room_at s.pools 0 ≡ 2176

-- a pool of mbufs, all in, in zones of the region
pub record IsReadyPool (region : Home) (p : PoolView) : Type 0 where
  pub size : p.size ≡ 2304
  pub count : length p.objects ≡ 400
  pub all_in : p.out ≡ replicate 400 false
  pub home : p.zones.home ≡ region

-- if the slot has a pool, it lies in zones of the region
abbrev pub IsInHome : Home → Option PoolView → Type 0
IsInHome region None = Unit {0}
IsInHome region (Some p) = p.zones.home ≡ region

-- the number of zones of the slot's pool
abbrev pub zones_in : Option PoolView → ℕ
zones_in None = 0
zones_in (Some p) = 2

-- one pool in the first slot, in zones of the region
abbrev pub IsOnePool : Home → List (Option PoolView) → Type 0
IsOnePool region pools =
    (p : PoolView) × (p.zones.home ≡ region) × (pools ≡ Some p ∷ None ∷ None ∷ None ∷ None ∷ None ∷ None ∷ None ∷ [])
