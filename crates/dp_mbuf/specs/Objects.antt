-- The objects of all pools: a header each, and the bytes after it.
use Rattle.std.specs.Prelude.{◌≡◌, ℕ, ◌+◌, ◌-◌, ◌<◌, ◌≤◌, ◌==◌, Bool, true, false, List, [], ◌∷◌, length, map, drop, sum_by, Option, Some, None}
use Rattle.std.specs.Prelude.{slice_index_or}
use Rattle.std.specs.List.{AllByRecursion}
use Rattle.dp_model.specs.declared.env.PoolSpec.{PoolSpec}
use Rattle.dp_model.specs.Buffers.{Number, same_number, Buffers, overwritten, written}
use Rattle.dp_mbuf.specs.declared.limits.TheConstants.{HEADER_SIZE, MAX_MBUFS, MAX_OBJECT_SIZE, MAX_POOLS}
use Rattle.dp_mbuf.specs.declared.header.Header.{Header}
use Rattle.dp_pool.specs.Pools.{PoolZones, PoolView, IsPool, object_in}
use Rattle.dp_pool.specs.Queues.{in_count}
use Rattle.dp_mbuf.specs.Headers.{header_of}

-- ---- reading pools

-- the pools of a list of slots whose first ones are filled
abbrev pub present : List (Option PoolView) → List PoolView
present [] = []
present (None ∷ pools) = []
present (Some p ∷ pools) = p ∷ present pools

-- a placeholder for a missing pool
abbrev pub no_pool : PoolView
no_pool = record {
  size = 0;
  cache = 0;
  cached = 0;
  objects = [];
  out = [];
  zones = record { home = record { block = 0; start = 0; rights = 0 }; object_name = []; object_offset = 0; queue_name = []; queue_offset = 0 };
}

abbrev pub pool_in : List PoolView → ℕ → PoolView
pool_in pools k = slice_index_or pools k no_pool

abbrev pub header_at : List PoolView → Number → Header
header_at pools n = header_of (object_in (pool_in pools n.pool) n.index)

-- the header after these bytes are written over the object's first ones, at an offset
abbrev pub header_with : List PoolView → Number → ℕ → List ℕ → Header
header_with pools n at bytes =
    header_of (overwritten (object_in (pool_in pools n.pool) n.index) at bytes)

-- whether the object is out
abbrev pub is_out : List PoolView → Number → Bool
is_out pools n = slice_index_or (pool_in pools n.pool).out n.index false

-- how many of the pool's objects are in
abbrev pub count_in : List PoolView → ℕ → ℕ
count_in pools k = in_count (pool_in pools k).out

-- the pool as dp_model knows it: its objects have a header and a data room
abbrev pub spec_of : PoolView → PoolSpec
spec_of p = record { count = length p.objects; cache = p.cache; room = p.size - HEADER_SIZE }

abbrev pub specs_of : List PoolView → List PoolSpec
specs_of pools = map spec_of pools

-- the bytes after the headers
abbrev pub rooms_of : PoolView → List (List ℕ)
rooms_of p = map (drop HEADER_SIZE) p.objects

abbrev pub buffers_of : List PoolView → Buffers
buffers_of pools = map rooms_of pools

-- all objects are in
abbrev pub AreAllIn : List PoolView → Type 0
AreAllIn pools = (n : Number) → is_out pools n ≡ false

-- the zones of the pools
abbrev pub zones_of : List PoolView → List PoolZones
zones_of pools = map (λ p. p.zones) pools

-- the object exists
abbrev pub HasObject : List PoolView → Number → Type 0
HasObject pools n = n.index < length (pool_in pools n.pool).objects

-- ---- what holds of all pools of mbufs

-- each object has room for a header, and at most 4,096 bytes after it
pub record HasRooms (p : PoolView) : Type 0 where
  pub pool : IsPool p
  pub header : HEADER_SIZE ≤ p.size
  pub room : p.size ≤ MAX_OBJECT_SIZE

-- the filled slots come first
abbrev pub PoolsFirst : List (Option PoolView) → Type 0
PoolsFirst [] = Unit {0}
PoolsFirst (None ∷ pools) = AllByRecursion (λ o. o ≡ None) pools
PoolsFirst (Some p ∷ pools) = HasRooms p × PoolsFirst pools

-- the filled slots come first, and their pools' objects have room for a header
abbrev pub HeadersFirst : List (Option PoolView) → Type 0
HeadersFirst [] = Unit {0}
HeadersFirst (None ∷ pools) = AllByRecursion (λ o. o ≡ None) pools
HeadersFirst (Some p ∷ pools) = (HEADER_SIZE ≤ p.size) × HeadersFirst pools

-- how many objects the pools have together
abbrev pub objects_in_all : List PoolView → ℕ
objects_in_all pools = sum_by (λ p. length p.objects) pools

-- `MAX_POOLS` slots, the first of them filled with pools of mbufs, at most `MAX_MBUFS` mbufs together
abbrev pub ArePoolSlots : List (Option PoolView) → Type 0
ArePoolSlots pools = (length pools ≡ MAX_POOLS) × PoolsFirst pools × (objects_in_all (present pools) ≤ MAX_MBUFS)

-- at most `MAX_POOLS` pools of mbufs
pub record ArePools (pools : List PoolView) : Type 0 where
  pub few : length pools ≤ MAX_POOLS
  pub rooms : (k : ℕ) → k < length pools → HasRooms (pool_in pools k)

-- ---- what calls on objects do: everything else is unchanged; `ArePools` still holds

-- the header of n becomes h
pub record HeaderSet (pools : List PoolView) (n : Number) (h : Header) (pools' : List PoolView) : Type 0 where
  pub are : ArePools pools'
  pub specs : specs_of pools' ≡ specs_of pools
  pub zones : zones_of pools' ≡ zones_of pools
  pub buffers : buffers_of pools' ≡ buffers_of pools
  pub outs : (m : Number) → is_out pools' m ≡ is_out pools m
  pub ins : (k : ℕ) → count_in pools' k ≡ count_in pools k
  pub here : header_at pools' n ≡ h
  pub others : (m : Number) → same_number n m ≡ false → header_at pools' m ≡ header_at pools m

-- bytes are written into n's data room at an offset
pub record RoomWritten (pools : List PoolView) (n : Number) (at : ℕ) (bytes : List ℕ) (pools' : List PoolView) : Type 0 where
  pub are : ArePools pools'
  pub specs : specs_of pools' ≡ specs_of pools
  pub zones : zones_of pools' ≡ zones_of pools
  pub buffers : buffers_of pools' ≡ written (buffers_of pools) n at bytes
  pub outs : (m : Number) → is_out pools' m ≡ is_out pools m
  pub ins : (k : ℕ) → count_in pools' k ≡ count_in pools k
  pub headers : (m : Number) → header_at pools' m ≡ header_at pools m

-- the header of n becomes h, and bytes are written into its data room at an offset
pub record BothWritten (pools : List PoolView) (n : Number) (h : Header) (at : ℕ) (bytes : List ℕ) (pools' : List PoolView) : Type 0 where
  pub middle : List PoolView
  pub header : HeaderSet pools n h middle
  pub bytes_in : RoomWritten middle n at bytes pools'

-- afterwards no packet begins at any object
pub record FirstsCleared (pools pools' : List PoolView) : Type 0 where
  pub are : ArePools pools'
  pub specs : specs_of pools' ≡ specs_of pools
  pub zones : zones_of pools' ≡ zones_of pools
  pub buffers : buffers_of pools' ≡ buffers_of pools
  pub outs : (m : Number) → is_out pools' m ≡ is_out pools m
  pub heads : (m : Number) → (header_at pools' m).segs ≡ 0

-- n is taken, which was in
pub record Taken (pools : List PoolView) (n : Number) (pools' : List PoolView) : Type 0 where
  pub are : ArePools pools'
  pub specs : specs_of pools' ≡ specs_of pools
  pub zones : zones_of pools' ≡ zones_of pools
  pub buffers : buffers_of pools' ≡ buffers_of pools
  pub headers : (m : Number) → header_at pools' m ≡ header_at pools m
  pub object : HasObject pools n
  pub was : is_out pools n ≡ false
  pub here : is_out pools' n ≡ true
  pub others : (m : Number) → same_number n m ≡ false → is_out pools' m ≡ is_out pools m
  pub ins : count_in pools' n.pool + 1 ≡ count_in pools n.pool

-- n is put back
pub record Given (pools : List PoolView) (n : Number) (pools' : List PoolView) : Type 0 where
  pub are : ArePools pools'
  pub specs : specs_of pools' ≡ specs_of pools
  pub zones : zones_of pools' ≡ zones_of pools
  pub buffers : buffers_of pools' ≡ buffers_of pools
  pub headers : (m : Number) → header_at pools' m ≡ header_at pools m
  pub here : is_out pools' n ≡ false
  pub others : (m : Number) → same_number n m ≡ false → is_out pools' m ≡ is_out pools m

-- n's number of segments is cleared, and n is put back
pub record Ended (pools : List PoolView) (n : Number) (pools' : List PoolView) : Type 0 where
  pub middle : List PoolView
  pub first_cleared : HeaderSet pools n (record (header_at pools n) { segs = 0 }) middle
  pub given : Given middle n pools'

-- ---- one slot for a pool

-- how many objects the slot's pool has
abbrev pub slot_count : Option PoolView → ℕ
slot_count None = 0
slot_count (Some p) = length p.objects

-- whether all objects of the slot's pool are in
abbrev pub slot_whole : Option PoolView → Bool
slot_whole None = true
slot_whole (Some p) = in_count p.out == length p.objects

-- afterwards no packet begins at the first n objects of a pool, which stays a pool of mbufs
pub record FirstsClearedTo (n : ℕ) (p p' : PoolView) : Type 0 where
  pub rooms : HasRooms p'
  pub spec : spec_of p' ≡ spec_of p
  pub zones : p'.zones ≡ p.zones
  pub buffers : rooms_of p' ≡ rooms_of p
  pub out : p'.out ≡ p.out
  pub heads : (i : ℕ) → i < n → (header_of (object_in p' i)).segs ≡ 0
