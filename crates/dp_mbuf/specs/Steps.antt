-- Internal, no public contract names it: the per-segment operations.
use Rattle.std.specs.Prelude.{◌≡◌, ℕ, suc, ◌+◌, ◌^◌, ◌<◌, ◌≤◌, true, false, List, length}
use Rattle.dp_model.specs.Buffers.{Number, same_number}
use Rattle.dp_mbuf.specs.declared.limits.TheConstants.{HEADROOM}
use Rattle.dp_mbuf.specs.declared.header.Header.{Header}
use Rattle.dp_pool.specs.Pools.{PoolView}
use Rattle.dp_mbuf.specs.Objects.{header_at, is_out, specs_of, buffers_of, zones_of, count_in, HasObject, ArePools, HeaderSet, RoomWritten, Taken}

-- the same part of a buffer, and the same next mbuf
pub record Linkage (g h : Header) : Type 0 where
  pub offset : g.offset ≡ h.offset
  pub len : g.len ≡ h.len
  pub next : g.next ≡ h.next
  pub buffer : g.buffer ≡ h.buffer

-- the two headers are equal, except for the references
pub record Alike (g h : Header) : Type 0 where
  pub segs : g.segs ≡ h.segs
  pub last : g.last ≡ h.last
  pub link : Linkage g h

-- headers do not change, except for references, and no further object is out
pub record Fewer (ps ps' : List PoolView) : Type 0 where
  pub are : ArePools ps'
  pub specs : specs_of ps' ≡ specs_of ps
  pub zones : zones_of ps' ≡ zones_of ps
  pub buffers : buffers_of ps' ≡ buffers_of ps
  pub headers : (m : Number) → Alike (header_at ps' m) (header_at ps m)
  pub outs : (m : Number) → is_out ps m ≡ false → is_out ps' m ≡ false

-- an mbuf is put back, unless it is its own buffer
pub record MbufBack (ps : List PoolView) (n b : Number) (ps' : List PoolView) : Type 0 where
  pub fewer : Fewer ps ps'
  pub refs : (m : Number) → (header_at ps' m).refs ≡ (header_at ps m).refs
  pub others : (m : Number) → same_number n m ≡ false → is_out ps' m ≡ is_out ps m
  pub here : same_number n b ≡ false → is_out ps' n ≡ false
  pub own : n ≡ b → is_out ps' n ≡ is_out ps n

-- a buffer with one reference is put back; any other loses one reference
pub record BufferLess (ps : List PoolView) (b : Number) (ps' : List PoolView) : Type 0 where
  pub fewer : Fewer ps ps'
  pub refs : (m : Number) → same_number b m ≡ false → (header_at ps' m).refs ≡ (header_at ps m).refs
  pub others : (m : Number) → same_number b m ≡ false → is_out ps' m ≡ is_out ps m
  pub last : (header_at ps b).refs ≡ 1 → is_out ps' b ≡ false
  pub one_less : (r : ℕ) → (header_at ps b).refs ≡ suc (suc r) → ((header_at ps' b).refs ≡ suc r) × (is_out ps' b ≡ is_out ps b)

-- an mbuf and its buffer are out, and the buffer has references
pub record CanRelease (ps : List PoolView) (n b : Number) : Type 0 where
  pub are : ArePools ps
  pub mbuf : HasObject ps n
  pub mbuf_out : is_out ps n ≡ true
  pub buffer : HasObject ps b
  pub buffer_out : is_out ps b ≡ true
  pub some : 1 ≤ (header_at ps b).refs

-- a segment is released: its mbuf and one reference of its buffer
pub record Released (ps : List PoolView) (n b : Number) (ps' : List PoolView) : Type 0 where
  pub middle : List PoolView
  pub mbuf : MbufBack ps n b middle
  pub buffer : BufferLess middle b ps'

-- the pool has an mbuf in to clone the segment with
pub record CanClone (ps : List PoolView) (from : Number) (pool : ℕ) : Type 0 where
  pub source : HasObject ps from
  pub buffer : HasObject ps (header_at ps from).buffer
  pub buffer_out : is_out ps (header_at ps from).buffer ≡ true
  pub refs : (header_at ps (header_at ps from).buffer).refs + 1 < 2 ^ 32
  pub there : pool < length ps
  pub some : 1 ≤ count_in ps pool

-- the header of an mbuf that shares a part of a buffer, in no packet yet
abbrev pub cloned_header : Header → Number → Header
cloned_header h n =
    record { segs = 0; refs = 0; offset = h.offset; len = h.len; next = n; last = n; buffer = h.buffer }

-- n is a new mbuf for the same part of the same buffer, whose references grow by one
pub record Cloned (ps : List PoolView) (from n : Number) (ps' : List PoolView) : Type 0 where
  pub first : List PoolView
  pub second : List PoolView
  pub taken : Taken ps n first
  pub header : HeaderSet first n (cloned_header (header_at ps from) n) second
  pub buffer : HeaderSet second (header_at ps from).buffer (record (header_at second (header_at ps from).buffer)
      { refs = (header_at second (header_at ps from).buffer).refs + 1 }) ps'

-- the header of a new mbuf that is its own buffer, in no packet yet
abbrev pub direct_header : Number → ℕ → ℕ → Header
direct_header n o l =
    record { segs = 0; refs = 1; offset = o; len = l; next = n; last = n; buffer = n }

-- n is a new mbuf that is its own buffer, with these bytes after the headroom
pub record FilledBy (ps : List PoolView) (n : Number) (bytes : List ℕ) (ps' : List PoolView) : Type 0 where
  pub first : List PoolView
  pub second : List PoolView
  pub taken : Taken ps n first
  pub header : HeaderSet first n (direct_header n HEADROOM (length bytes)) second
  pub bytes_in : RoomWritten second n HEADROOM bytes ps'
