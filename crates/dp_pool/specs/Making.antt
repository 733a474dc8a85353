-- Which pools can be made, and why one is refused.
use Rattle.std.specs.Prelude.{◌≡◌, ℕ, ◌+◌, ◌*◌, ◌≤◌, ◌⊎◌, codes, false, List, [], ◌∷◌, ◌++◌, length, replicate}
use Rattle.std.specs.Int.{IsNextPowerOfTwo}
use Rattle.dp_heap.specs.declared.elements.Element.{Element}
use Rattle.dp_heap.specs.Elements.{rounded, alignment, Taken}
use Rattle.dp_zone.specs.Zones.{Reserved, IsZoneRefused, IsReservable}
use Rattle.dp_region.specs.Ownership.{Home}
use Rattle.dp_pool.specs.declared.error.PoolError.{PoolError}
use Rattle.dp_pool.specs.declared.error.PoolError.TheVariants.{BadCount, BadSize, BadCache, Zone}
use Rattle.dp_pool.specs.Pools.{max_objects, max_object, max_cache, PoolView, stride_of}

-- permitted numbers of objects, sizes and caches
abbrev pub IsPoolCount : ℕ → Type 0
IsPoolCount n = (1 ≤ n) × (n ≤ max_objects)

abbrev pub IsObjectSize : ℕ → Type 0
IsObjectSize size = (1 ≤ size) × (size ≤ max_object)

abbrev pub IsCacheSize : ℕ → ℕ → Type 0
IsCacheSize n cache = (cache ≤ max_cache) × (3 * cache ≤ 2 * n)

-- the names of a pool's zones
abbrev pub object_name : List ℕ → List ℕ
object_name name = name ++ codes ".obj"

abbrev pub queue_name : List ℕ → List ℕ
queue_name name = name ++ codes ".ring"

-- the lengths of the zones: one stride for each object, and 4 bytes for each slot of the queue, whose number is the smallest power of two above n
abbrev pub object_len : ℕ → ℕ → ℕ
object_len n size = n * stride_of size

abbrev pub IsQueueLen : ℕ → ℕ → Type 0
IsQueueLen n len = (count : ℕ) × IsNextPowerOfTwo (n + 1) count × (len ≡ 4 * count)

-- a zone of that name and length is taken from the heap and appended to the table
pub record Reserves (name : List ℕ) (len : ℕ) (old : List Reserved) (before : List Element) (offset : ℕ) (new : List Reserved) (after : List Element) : Type
    0 where
  pub reservable : IsReservable name len 0 old
  pub taken : Taken before (rounded len) (alignment 0) offset after
  pub table : new ≡ old ++ record { name = name; offset = offset; len = rounded len } ∷ []

-- no pool is made, for this cause and no earlier one
abbrev pub IsPoolRefused : PoolError → List ℕ → ℕ → ℕ → ℕ → List Reserved → List Element → Type 0
IsPoolRefused BadCount name n size cache table es = ¬ IsPoolCount n
IsPoolRefused BadSize name n size cache table es = IsPoolCount n × ¬ IsObjectSize size
IsPoolRefused BadCache name n size cache table es = IsPoolCount n × IsObjectSize size × ¬ IsCacheSize n cache
-- a zone's error: that of the objects, or of the queue once the objects have theirs
IsPoolRefused (Zone error) name n size cache table es =
    IsPoolCount n × IsObjectSize size × IsCacheSize n cache
    × (IsZoneRefused error (object_name name) (object_len n size) 0 table es
    ⊎ ((len offset : ℕ) × (mid : List Reserved) × (left : List Element) × IsQueueLen n len
    × Reserves (object_name name) (object_len n size) table es offset mid left × IsZoneRefused error (queue_name name) len 0 mid left))

-- the number of a cause
abbrev pub number_of : PoolError → ℕ
number_of BadCount = 1
number_of BadSize = 2
number_of BadCache = 3
number_of (Zone error) = 4

-- a pool of n objects is made, all in: its zones are taken, the objects' first
pub record IsMade (name : List ℕ) (n size cache : ℕ) (home : Home) (old : List Reserved) (before : List Element) (p : PoolView) (new : List Reserved)
    (after : List Element) : Type 0 where
  pub count : IsPoolCount n
  pub size_fits : IsObjectSize size
  pub cache_fits : IsCacheSize n cache
  pub size_is : p.size ≡ size
  pub cache_is : p.cache ≡ cache
  pub cached : p.cached ≡ 0
  pub objects : length p.objects ≡ n
  pub all_in : p.out ≡ replicate n false
  pub home_is : p.zones.home ≡ home
  pub names : (p.zones.object_name ≡ object_name name) × (p.zones.queue_name ≡ queue_name name)
  pub len : ℕ
  pub len_is : IsQueueLen n len
  pub mid : List Reserved
  pub left : List Element
  pub objects_reserved : Reserves (object_name name) (object_len n size) old before p.zones.object_offset mid left
  pub queue_reserved : Reserves (queue_name name) len mid left p.zones.queue_offset new after
