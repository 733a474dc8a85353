-- What holds of every pool.
use Rattle.std.proofs.Common.{◌≡◌, ℕ, zero, suc, ◌+◌, ◌*◌, ◌<◌, ◌≤◌, Bool, List, [], ◌∷◌, length, take, drop, sym, ap, ◌∙◌, arith}
use Rattle.std.specs.Prelude.{slice_index, slice_index_or, slice_set}
use Rattle.dp_region.specs.Spans.{bytes_in, with_bytes, overlaid}
use Rattle.dp_region.specs.Laws.{length-bytes_in}
use Rattle.dp_zone.specs.Zones.{ZoneView}
use Rattle.dp_pool.specs.Queues.{IndexView}
use Rattle.dp_pool.specs.Pools.{PoolView, PoolZones, IsPool, object_in, overwritten, with_object, with_written, with_left, stride_of, objects_from}
use Rattle.dp_pool.specs.Pools.{object_offset}
use Rattle.dp_pool.proofs.Lent.{objects_left, left_whole}
use Rattle.dp_pool.proofs.Objects.{length-objects, object_is, objects_written, object_offset_is, offset_within, stride_covers}

pub counted : (bytes : List ℕ) (size n : ℕ) → n ≡ length (objects_from bytes size 0 n)
counted bytes size n = sym (length-objects bytes size 0 n)

-- an object lies within the bytes
pub object_fits : (bytes : List ℕ) (size n i : ℕ) → i < n → n * stride_of size ≤ length bytes → object_offset size 0 i + size ≤ length bytes
object_fits bytes size n i less room =
    let high = offset_within size 0 n i less in
    let end = object_offset_is size 0 n in
    let covers = stride_covers size in
    omega (arith, high, end, covers, room)

-- ---- bytes are below 256

small_take : (n : ℕ) (xs : List ℕ) → ((k : ℕ) → slice_index xs k < 256) → (k : ℕ) → slice_index (take n xs) k < 256
small_take zero xs small k = omega arith
small_take (suc n) [] small k = omega arith
small_take (suc n) (x ∷ xs) small zero = small 0
small_take (suc n) (x ∷ xs) small (suc k) = small_take n xs (λ j. small (suc j)) k

small_drop : (n : ℕ) (xs : List ℕ) → ((k : ℕ) → slice_index xs k < 256) → (k : ℕ) → slice_index (drop n xs) k < 256
small_drop zero xs small k = small k
small_drop (suc n) [] small k = omega arith
small_drop (suc n) (x ∷ xs) small k = small_drop n xs (λ j. small (suc j)) k

-- the bytes of each object are below 256
small_objects : (bytes : List ℕ) (size offset n : ℕ) → ((k : ℕ) → slice_index bytes k < 256) →
    (i k : ℕ) → slice_index (slice_index_or (objects_from bytes size offset n) i []) k < 256
small_objects bytes size offset zero small i k = omega arith
small_objects bytes size offset (suc n) small zero k = small_take size (drop offset bytes) (small_drop offset bytes small) k
small_objects bytes size offset (suc n) small (suc i) k = small_objects bytes size (offset + stride_of size) n small i k

pub is_pool : (size cache cached n : ℕ) (bytes : List ℕ) (out : List Bool) (zones : PoolZones) → length out ≡ n → 1 ≤ n → n ≤ 65535 →
    n * stride_of size ≤ length bytes → ((k : ℕ) → slice_index bytes k < 256) → (1 ≤ size) × (size ≤ 4224) → (cache ≤ 512) × (3 * cache ≤ 2 * n)
    → IsPool (record { size = size; cache = cache; cached = cached; objects = objects_from bytes size 0 n; out = out; zones = zones })
is_pool size cache cached n bytes out zones long some few room small sizes caches =
    let objects = length-objects bytes size 0 n in
    record {
      some = omega (arith, objects, some);
      count = omega (arith, objects, few);
      out = long ∙ sym objects;
      sizes = λ i less. let low : i < n = omega (arith, less, objects) in
          ap length (object_is bytes size 0 n i low) ∙ length-bytes_in bytes (object_offset size 0 i) size (object_fits bytes size n i low room);
      bytes = small_objects bytes size 0 n small;
      size = sizes;
      cache = (caches.0, omega (arith, objects, caches.1));
    }

-- an index times the stride is the object's offset
pub offset_is : (size i : ℕ) → i * stride_of size ≡ object_offset size 0 i
offset_is size i = sym (object_offset_is size 0 i ∙ omega arith)

pub offset_ends : (size n i : ℕ) → i < n → object_offset size 0 i + stride_of size ≤ n * stride_of size
offset_ends size n i less = let high = offset_within size 0 n i less in let end = object_offset_is size 0 n in omega (arith, high, end)

-- ---- a pool from its parts

abbrev pub pool_of : ZoneView → IndexView → ℕ → ℕ → PoolView
pool_of objects indexes count size = record {
  size = size;
  cache = indexes.cache;
  cached = indexes.cached;
  objects = objects_from objects.bytes size 0 count;
  out = indexes.out;
  zones = record { home = objects.home; object_name = objects.name; object_offset = objects.offset; queue_name = indexes.name; queue_offset = indexes.offset };
}

abbrev pub with_objects : PoolView → List (List ℕ) → PoolView
with_objects p objects = record p { objects = objects }

module _ (zone : ZoneView) (indexes : IndexView) (count size index : ℕ) (now : PoolView) (is : pool_of zone indexes count size
    ≡ now) (there : index < length now.objects) where
  -- the index is below the number of objects
  pub index_below : index < count
  index_below = let same = ap (λ v. length v.objects) is in let long = length-objects zone.bytes size 0 count in omega (arith, there, same, long)

  -- the bytes of an object are those from its offset on
  pub object_bytes : bytes_in zone.bytes (object_offset size 0 index) size ≡ object_in now index
  object_bytes = sym (object_is zone.bytes size 0 count index index_below) ∙ ap (λ v. object_in v index) is

  -- writing bytes into the zone at an object's offset writes them into the object
  pub pool_written : (at : ℕ) (ws : List ℕ) (offset : ℕ) (new : ZoneView) → offset ≡ object_offset size 0 index → at + length ws ≤ now.size →
      count * stride_of size ≤ length zone.bytes
      → new ≡ record zone { bytes = with_bytes zone.bytes (offset + at) ws } → pool_of new indexes count size ≡ with_written now index at ws
  pool_written at ws offset new is_offset within room is_new =
      let sizes = ap (λ v. v.size) is in
      let fits : at + length ws ≤ size = omega (arith, within, sizes) in
      let end = object_offset_is size 0 count in
      let bytes = zone.bytes in
      let objects : objects_from (with_bytes bytes (offset + at) ws) size 0 count
      ≡ slice_set (objects_from bytes size 0 count) index (overwritten (object_in (pool_of zone indexes count size) index) at ws) =
      ap (λ p. objects_from (with_bytes bytes (p + at) ws) size 0 count) is_offset
      ∙ (objects_written bytes size 0 count index at ws index_below fits (omega (arith, end, room))
      ∙ ap (λ b. slice_set (objects_from bytes size 0 count) index (overwritten b at ws)) (sym (object_is bytes size 0 count index index_below))) in
      ap (λ z. pool_of z indexes count size) is_new
      ∙ (ap (with_objects (pool_of zone indexes count size)) objects
      ∙ ap (λ v. with_written v index at ws) is)

  -- bytes lent from the zone at the object's offset come back into the object
  pub pool_left : (offset : ℕ) → offset ≡ object_offset size 0 index → count * stride_of size ≤ length zone.bytes →
      (ws : List ℕ) → pool_of (record zone { bytes = overlaid zone.bytes offset ws }) indexes count size ≡ with_left index now ws
  pool_left offset is_offset room ws =
      let end = object_offset_is size 0 count in
      ap (λ p. pool_of (record zone { bytes = overlaid zone.bytes p ws }) indexes count size) is_offset
      ∙ (ap (with_objects (pool_of zone indexes count size)) (objects_left zone.bytes size 0 count index ws index_below (omega (arith, end, room)))
      ∙ ap (λ v. with_left index v ws) is)

  -- a write of the object's full length becomes the object, and nothing else changes
  pub left_alone : count * stride_of size ≤ length zone.bytes → (ws : List ℕ) → length ws ≡ now.size → with_left index now ws ≡ with_object now index ws
  left_alone room ws long =
      let sizes = ap (λ v. v.size) is in
      let bytes = ap length (sym object_bytes) ∙ length-bytes_in zone.bytes (object_offset size 0 index) size
      (object_fits zone.bytes size count index index_below room) in
      let covers = stride_covers now.size in
      ap (with_objects now) (left_whole now.objects (stride_of now.size) index ws there (long ∙ sym (bytes ∙ sizes)) (omega (arith, covers, long)))
