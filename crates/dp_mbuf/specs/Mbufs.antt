-- Packets in objects: what contracts see of an `Mbufs`, and what holds of every one.
use Rattle.std.specs.Prelude.{◌≡◌, ℕ, zero, suc, ◌+◌, ◌*◌, ◌/◌, ◌%◌, ◌<◌, ◌≤◌, Bool, true, false, not, ◌&&◌, if◌then◌else◌, List, [], ◌∷◌, ◌++◌, length}
use Rattle.std.specs.Prelude.{count_by, sum_by, replicate, Option, Some, None, slice_index_or, slice_set}
use Rattle.std.specs.List.{AllByRecursion}
use Rattle.dp_model.specs.declared.env.PoolSpec.{PoolSpec}
use Rattle.dp_model.specs.Buffers.{Number, same_number, IsNumber}
use Rattle.dp_model.specs.Packets.{Segment, Packet, refs, Lies}
use Rattle.dp_model.specs.Machine.{segments_held}
use Rattle.dp_model.specs.Stores.{Store}
use Rattle.dp_mbuf.specs.declared.limits.TheConstants.{MAX_MBUFS, MAX_POOLS, MAX_SEGMENTS, POOL_HANDLES}
use Rattle.dp_mbuf.specs.declared.header.Header.{Header}
use Rattle.dp_pool.specs.Pools.{PoolZones, PoolView}
use Rattle.dp_mbuf.specs.Objects.{header_at, is_out, specs_of, buffers_of, zones_of, present, objects_in_all, HeadersFirst, PoolsFirst, ArePools, AreAllIn}

-- ---- what contracts see: a packet's handle is the number of its first mbuf

abbrev pub handle : Number → ℕ
handle n = n.pool * POOL_HANDLES + n.index

abbrev pub numbered : ℕ → Number
numbered h = record { pool = h / POOL_HANDLES; index = h % POOL_HANDLES }

-- whether a number is above 0
abbrev pub is_positive : ℕ → Bool
is_positive zero = false
is_positive (suc n) = true

-- the segment that a header describes
abbrev pub segment_at : (Number → Header) → Number → Segment
segment_at h n = record { mbuf = n; buffer = (h n).buffer; offset = (h n).offset; len = (h n).len }

-- the n segments along the links
abbrev pub walk : (Number → Header) → ℕ → Number → Packet
walk h zero n = []
walk h (suc k) n = segment_at h n ∷ walk h k (h n).next

-- whether a packet begins there
abbrev pub is_head : List PoolView → Number → Bool
is_head ps n = is_positive (header_at ps n).segs

abbrev pub packet_at : List PoolView → Number → Option Packet
packet_at ps n = if is_head ps n then Some (walk (header_at ps) (header_at ps n).segs n) else None

-- the packets of n consecutive handles, starting at one
abbrev pub slots_from : List PoolView → ℕ → ℕ → List (Option Packet)
slots_from ps h zero = []
slots_from ps h (suc k) = packet_at ps (numbered h) ∷ slots_from ps (suc h) k

unfoldable pub slots_of : List PoolView → List (Option Packet)
slots_of ps = slots_from ps 0 (POOL_HANDLES * length ps)

abbrev pub shown : List PoolView → Store
shown ps = record { pools = specs_of ps; buffers = buffers_of ps; slots = slots_of ps }

-- an `Mbufs`: its packets over pools, and the zones of the pools
pub record MbufsView : Type 0 where
  pub store : Store
  pub zones : List PoolZones

abbrev pub viewed : List PoolView → MbufsView
viewed ps = record { store = shown ps; zones = zones_of ps }

-- ---- a packet in its headers

-- the segments are linked, starting at n
abbrev pub Linked : (Number → Header) → Number → Packet → Type 0
Linked h n [] = Unit {0}
Linked h n (s ∷ rest) = (segment_at h n ≡ s) × Linked h (h n).next rest

-- the mbuf of the last segment
abbrev pub last_mbuf : Number → Packet → Number
last_mbuf n [] = n
last_mbuf n (s ∷ rest) = last_mbuf s.mbuf rest

-- the first header has the number of segments and the last mbuf
pub record Stands (ps : List PoolView) (n : Number) (packet : Packet) : Type 0 where
  pub out : is_out ps n ≡ true
  pub some : 1 ≤ length packet
  pub few : length packet ≤ MAX_SEGMENTS
  pub segs : (header_at ps n).segs ≡ length packet
  pub last : (header_at ps n).last ≡ last_mbuf n packet
  pub links : Linked (header_at ps) n packet

abbrev pub StandsAt : List PoolView → Number → Option Packet → Type 0
StandsAt ps n None = is_head ps n ≡ false
StandsAt ps n (Some k) = Stands ps n k

-- the headers show these packets, and no others
pub record Shows (ps : List PoolView) (slots : List (Option Packet)) : Type 0 where
  pub many : length slots ≡ POOL_HANDLES * length ps
  pub each : (h : ℕ) → StandsAt ps (numbered h) (slice_index_or slots h None)

-- the links from n reach a k-th mbuf, and each mbuf before it is an object
abbrev pub HasWalk : List PoolView → Number → ℕ → Type 0
HasWalk ps n k =
    (p : Packet) × Linked (header_at ps) n p × AllByRecursion (λ s. IsNumber (specs_of ps) s.mbuf) p × (k < length p)

-- ---- the counts

-- the number of segments that have this number as their mbuf, and how many of these are indirect
abbrev pub mbufs : List Segment → Number → ℕ
mbufs ss n = count_by (λ s. same_number s.mbuf n) ss

abbrev pub indirects : List Segment → Number → ℕ
indirects ss n = count_by (λ s. same_number s.mbuf n && not (same_number s.buffer n)) ss

-- The segments are those of a well-formed world, each buffer's header has its references, and exactly the objects that some segment has as mbuf or
-- buffer are out.
pub record Counted (ps : List PoolView) (ss : List Segment) : Type 0 where
  pub once : (n : Number) → mbufs ss n ≤ 1
  pub direct : (n : Number) → 1 ≤ indirects ss n → refs ss n ≡ 0
  pub numbers : AllByRecursion (λ s. IsNumber (specs_of ps) s.mbuf) ss
  pub lie : AllByRecursion (Lies (specs_of ps)) ss
  pub stored : (b : Number) → 1 ≤ refs ss b → (header_at ps b).refs ≡ refs ss b
  pub out : (n : Number) → IsNumber (specs_of ps) n → is_out ps n ≡ is_positive (mbufs ss n + refs ss n)

-- ---- what holds while a call runs: these packets, and these segments in hand
pub record Whole (ps : List PoolView) (hand : Packet) (slots : List (Option Packet)) : Type 0 where
  pub are : ArePools ps
  pub counted : Counted ps (hand ++ segments_held slots)
  pub shows : Shows ps slots

-- what holds of every `Mbufs`: no segment is in hand
abbrev pub Sound : List PoolView → Type 0
Sound ps = Whole ps [] (slots_of ps)

-- the number of mbufs of all pools together
abbrev pub mbufs_in_all : List PoolSpec → ℕ
mbufs_in_all pools = sum_by (λ p. p.count) pools

-- ---- making and ending

-- one to `MAX_POOLS` pools with room for a header in each object, at most `MAX_MBUFS` objects together, all in
pub record AreReady (pools : List (Option PoolView)) : Type 0 where
  pub first : HeadersFirst pools
  pub some : 1 ≤ length (present pools)
  pub few : length (present pools) ≤ MAX_POOLS
  pub mbufs : objects_in_all (present pools) ≤ MAX_MBUFS
  pub all_in : AreAllIn (present pools)

-- an `Mbufs` over these pools, with the bytes after the headers, and no packet
pub record IsNew (pools : List (Option PoolView)) (m : MbufsView) : Type 0 where
  pub pools_are : m.store.pools ≡ specs_of (present pools)
  pub buffers : m.store.buffers ≡ buffers_of (present pools)
  pub zones : m.zones ≡ zones_of (present pools)
  pub empty : m.store.slots ≡ replicate (POOL_HANDLES * length m.store.pools) None

-- no packet, neither live nor parked
abbrev pub HasNone : Store → Type 0
HasNone s = (h : ℕ) → slice_index_or s.slots h None ≡ None

-- the same pools in their zones, with all objects in and the bytes that they have
pub record AreBack (m : MbufsView) (pools : List (Option PoolView)) : Type 0 where
  pub first : PoolsFirst pools
  pub all_in : AreAllIn (present pools)
  pub pools_are : specs_of (present pools) ≡ m.store.pools
  pub buffers : buffers_of (present pools) ≡ m.store.buffers
  pub zones : zones_of (present pools) ≡ m.zones

-- ---- a packet that is being freed

-- Internal: the rest of the packet is in hand, and its slot is empty
pub record Freeing (ps : List PoolView) (mbuf : Number) (i many : ℕ) (v : Store) (h : ℕ) : Type 0 where
  pub rest : Packet
  pub left : length rest + i ≡ many
  pub whole : Whole ps rest (slice_set v.slots h None)
  pub links : Linked (header_at ps) mbuf rest
  pub specs : specs_of ps ≡ v.pools
  pub buffers : buffers_of ps ≡ v.buffers
