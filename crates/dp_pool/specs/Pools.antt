-- Pools of objects, as contracts see them.
use Rattle.std.specs.Prelude.{◌≡◌, refl, ℕ, zero, suc, ◌+◌, ◌-◌, ◌*◌, ◌/◌, ◌<◌, ◌≤◌, Bool, false, List, [], ◌∷◌, ◌++◌, take, drop, length, slice_get}
use Rattle.std.specs.Prelude.{slice_index, slice_index_or, slice_set, Some, unwrap_or}
use Rattle.std.specs.Coded.{Coded, code_by, coded×, coded_list, coded_ℕ, coded_bool}
use Rattle.dp_region.specs.Ownership.{Home, home_code}
use Rattle.dp_region.specs.Spans.{bytes_in, refilled}
use Rattle.dp_region.specs.Region.{cache_line}
use Rattle.dp_pool.specs.Queues.{in_count, taken, back, cached_after_get, cached_after_put}

-- where a pool is: the region, and the names and offsets of the objects' zone and of the queue's
pub record PoolZones : Type 0 where
  pub home : Home
  pub object_name : List ℕ
  pub object_offset : ℕ
  pub queue_name : List ℕ
  pub queue_offset : ℕ

abbrev pub zones_code : Coded PoolZones
zones_code =
    code_by (Home × (List ℕ × (ℕ × (List ℕ × ℕ)))) (coded× home_code (coded× (coded_list coded_ℕ) (coded× coded_ℕ (coded× (coded_list coded_ℕ) coded_ℕ))))
    (λ z. (z.home, (z.object_name, (z.object_offset, (z.queue_name, z.queue_offset)))))
    (λ p. record { home = p.0; object_name = p.1.0; object_offset = p.1.1.0; queue_name = p.1.1.1.0; queue_offset = p.1.1.1.1 }) (λ _. refl)

-- a pool: the size of an object, the size of the cache and how many indexes it holds, each object's bytes, whether each is out, and its zones
pub record PoolView : Type 0 where
  pub size : ℕ
  pub cache : ℕ
  pub cached : ℕ
  pub objects : List (List ℕ)
  pub out : List Bool
  pub zones : PoolZones

-- it is stored as the tuple of its fields
abbrev pub pool_code : Coded PoolView
pool_code =
    code_by (ℕ × (ℕ × (ℕ × (List (List ℕ) × (List Bool × PoolZones)))))
    (coded× coded_ℕ (coded× coded_ℕ (coded× coded_ℕ (coded× (coded_list (coded_list coded_ℕ)) (coded× (coded_list coded_bool) zones_code)))))
    (λ p. (p.size, (p.cache, (p.cached, (p.objects, (p.out, p.zones))))))
    (λ t. record { size = t.0; cache = t.1.0; cached = t.1.1.0; objects = t.1.1.1.0; out = t.1.1.1.1.0; zones = t.1.1.1.1.1 }) (λ _. refl)

-- the bytes of an object; empty if there is no such object
abbrev pub object_in : PoolView → ℕ → List ℕ
object_in p i = slice_index_or p.objects i []

-- bytes after others are written over them at an offset
abbrev pub overwritten : List ℕ → ℕ → List ℕ → List ℕ
overwritten old at new = take at old ++ (new ++ drop (at + length new) old)

-- the pool with other bytes in one object
abbrev pub with_object : PoolView → ℕ → List ℕ → PoolView
with_object p i bytes = record p { objects = slice_set p.objects i bytes }

-- the pool after these bytes are written into an object at an offset
abbrev pub with_written : PoolView → ℕ → ℕ → List ℕ → PoolView
with_written p i at bytes = with_object p i (overwritten (object_in p i) at bytes)

-- whether an index is out
abbrev pub is_out_in : List Bool → ℕ → Bool
is_out_in out i = unwrap_or (slice_get out i) false

-- the pool after an index that was in is taken
abbrev pub got : PoolView → ℕ → PoolView
got p i = record p { out = taken i p.out; cached = cached_after_get p.cache p.cached (in_count p.out) }

-- the pool after an index that was out is put back
abbrev pub put_back : PoolView → ℕ → PoolView
put_back p i = record p { out = back i p.out; cached = cached_after_put p.cache p.cached }

-- indexes that were in are taken, one after another
abbrev pub AreGot : PoolView → List ℕ → PoolView → Type 0
AreGot old [] new = new ≡ old
AreGot old (i ∷ is) new = (slice_get old.out i ≡ Some false) × AreGot (got old i) is new

-- indexes that were out are put back, one after another
abbrev pub all_back : PoolView → List ℕ → PoolView
all_back p [] = p
all_back p (i ∷ is) = all_back (put_back p i) is

-- the maximum number of objects of a pool, the maximum size of an object, and the maximum size of a cache
abbrev pub max_objects : ℕ
max_objects = 65535

abbrev pub max_object : ℕ
max_object = 4224

abbrev pub max_cache : ℕ
max_cache = 512

-- what holds of every pool
pub record IsPool (p : PoolView) : Type 0 where
  pub some : 1 ≤ length p.objects
  pub count : length p.objects ≤ max_objects
  pub out : length p.out ≡ length p.objects
  pub sizes : (i : ℕ) → i < length p.objects → length (object_in p i) ≡ p.size
  pub bytes : (i k : ℕ) → slice_index (object_in p i) k < 256
  pub size : (1 ≤ p.size) × (p.size ≤ max_object)
  pub cache : (p.cache ≤ max_cache) × (3 * p.cache ≤ 2 * length p.objects)

-- ---- how the objects lie in their zone

-- the bytes that an object of a size takes
abbrev pub stride_of : ℕ → ℕ
stride_of size = (size + (cache_line - 1)) / cache_line * cache_line

-- the n objects of a size that begin at an offset
abbrev pub objects_from : List ℕ → ℕ → ℕ → ℕ → List (List ℕ)
objects_from bytes size offset zero = []
objects_from bytes size offset (suc n) = bytes_in bytes offset size ∷ objects_from bytes size (offset + stride_of size) n

-- the offset of the i-th of them
abbrev pub object_offset : ℕ → ℕ → ℕ → ℕ
object_offset size offset zero = offset
object_offset size offset (suc i) = object_offset size (offset + stride_of size) i

-- ---- an object whose bytes were lent for writing

-- objects after ws is written over them, starting at the first byte; each begins `stride` bytes after the one before
abbrev pub spilled : ℕ → List (List ℕ) → List ℕ → List (List ℕ)
spilled stride [] ws = []
spilled stride (o ∷ os) ws = refilled o ws ∷ spilled stride os (drop stride ws)

-- the pool after an object's bytes were lent and ws came back
abbrev pub with_left : ℕ → PoolView → List ℕ → PoolView
with_left i p ws = record p { objects = take i p.objects ++ spilled (stride_of p.size) (drop i p.objects) ws }
