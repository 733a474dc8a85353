-- What is not refused.
use Rattle.std.proofs.Common.{◌≡◌, ℕ, ◌+◌, ◌*◌, ◌/◌, ◌<◌, ◌≤◌, true, ◌&&◌, inl, inr, List, [], ◌∷◌, ◌++◌, refl, sym, ap, subst, ◌∙◌, arith}
use Rattle.std.specs.Prelude.{nat_le}
use Rattle.std.proofs.lemmas.Bool.{true≢false, and_parts, leb-true}
use Rattle.std.proofs.Math.Nat.{mul-le-mul_left}
use Rattle.dp_heap.specs.declared.elements.Element.{Element}
use Rattle.dp_heap.specs.Elements.{rounded, NothingFits, Taken}
use Rattle.dp_zone.specs.declared.error.ZoneError.{ZoneError}
use Rattle.dp_zone.specs.declared.error.ZoneError.TheVariants.{BadName, BadLength, BadAlign, Exists, Full, NoRoom}
use Rattle.dp_zone.specs.Zones.{Reserved, IsLength, IsZoneRefused}
use Rattle.dp_pool.specs.declared.error.PoolError.{PoolError}
use Rattle.dp_pool.specs.declared.error.PoolError.TheVariants.{BadCount, BadSize, BadCache, Zone}
use Rattle.dp_pool.specs.Making.{object_name, queue_name, IsPoolCount, IsCacheSize, IsPoolRefused}
use Rattle.dp_model.specs.declared.env.PoolSpec.{PoolSpec}
use Rattle.dp_model.specs.Environments.{pool_fits}
use Rattle.dp_engine.specs.Needs.{power_above, objects_len, queue_len}
use Rattle.dp_engine.specs.Names.{IsNext}
use Rattle.dp_engine.specs.Builders.{names_of}
use Rattle.dp_engine.proofs.NameLemmas.{fresh, names_counted, name_reserved}
use Rattle.dp_engine.proofs.Powers.{power_is, power_low}

-- a zone is not refused where there is room for it
pub zone_never : (e : ZoneError) (name : List ℕ) (len : ℕ) (table : List Reserved) (es : List Element) → IsNext name (names_of table) → IsLength len →
    (NothingFits (rounded len) 64 es → ⊥) → IsZoneRefused e name len 0 table es → ⊥
zone_never BadName name len table es next fits room refused = true≢false (sym next.named ∙ refused)
zone_never BadLength name len table es next fits room (_, bad) = bad fits
zone_never BadAlign name len table es next fits room (_, _, bad) = bad (inl refl)
zone_never Exists name len table es next fits room (_, _, _, has) = true≢false (sym has ∙ fresh name table next.after)
zone_never Full name len table es next fits room (_, _, _, _, many) = omega (arith, many, next.few, names_counted table)
zone_never NoRoom name len table es next fits room (_, _, _, _, _, none) = room none

-- the numbers of a pool within the limits
pub record IsWithin (s : PoolSpec) : Type 0 where
  pub count : IsPoolCount s.count
  pub cache : IsCacheSize s.count s.cache
  pub room : s.room ≤ 4096

pub within : (s : PoolSpec) → pool_fits s ≡ true → IsWithin s
within s fits =
    let (h1, room) = and_parts (nat_le 1 s.count && nat_le s.count 65535 && nat_le s.cache 512 && nat_le (3 * s.cache) (2 * s.count))
    (nat_le s.room 4096) fits in
    let (h2, share) = and_parts (nat_le 1 s.count && nat_le s.count 65535 && nat_le s.cache 512) (nat_le (3 * s.cache) (2 * s.count)) h1 in
    let (h3, cache) = and_parts (nat_le 1 s.count && nat_le s.count 65535) (nat_le s.cache 512) h2 in
    let (some, most) = and_parts (nat_le 1 s.count) (nat_le s.count 65535) h3 in
    record {
      count = (leb-true 1 s.count some, leb-true s.count 65535 most);
      cache = (leb-true s.cache 512 cache, leb-true (3 * s.cache) (2 * s.count) share);
      room = leb-true s.room 4096 room;
    }

-- the lengths of its zones: its objects take more than its queue
pub long : (s : PoolSpec) → pool_fits s ≡ true → (128 * s.count ≤ objects_len s) × (objects_len s ≤ 276819840) × (queue_len s ≤ 8 * s.count) × (0 < queue_len s)
long s fits =
    let w = within s fits in
    let some = w.count.0 in let many = w.count.1 in let room = w.room in
    let least : s.count * 128 ≤ s.count * ((s.room + 128 + 63) / 64 * 64) =
    mul-le-mul_left s.count (let low : 128 ≤ (s.room + 128 + 63) / 64 * 64 = omega arith in low) in
    let most : s.count * ((s.room + 128 + 63) / 64 * 64) ≤ s.count * 4224 =
    mul-le-mul_left s.count (let high : (s.room + 128 + 63) / 64 * 64 ≤ 4224 = omega arith in high) in
    let power = power_low s.count some in
    (omega arith, omega arith, omega arith, omega arith)

-- a pool is not refused where there is room for its objects, and then for its queue
pub pool_never : (e : PoolError) (name : List ℕ) (s : PoolSpec) (size : ℕ) (table : List Reserved) (es : List Element) → pool_fits s ≡ true →
    size ≡ s.room + 128
    → IsNext (object_name name) (names_of table) → IsNext (queue_name name) (names_of table ++ object_name name ∷ [])
    → (NothingFits (rounded (objects_len s)) 64 es → ⊥) → ((offset : ℕ) (mid : List Element) → Taken es (rounded (objects_len s)) 64 offset mid →
    NothingFits (rounded (queue_len s)) 64 mid → ⊥)
    → IsPoolRefused e name s.count size s.cache table es → ⊥
pool_never e name s size table es fits sized objects queue room more refused =
    go e (subst (λ (n : ℕ). IsPoolRefused e name s.count n s.cache table es) sized refused)
  where
    go : (e : PoolError) → IsPoolRefused e name s.count (s.room + 128) s.cache table es → ⊥
    go BadCount refused = refused (within s fits).count
    go BadSize (_, bad) = bad (let room = (within s fits).room in (omega arith, omega arith))
    go BadCache (_, _, bad) = bad (within s fits).cache
    go (Zone error) (count, size, cache, inl refused) = zone_never error (object_name name) (objects_len s) table es objects (let l = long s fits in
        let w = (within s fits).count.0 in (omega arith, omega arith)) room refused
    go (Zone error) (count, size, cache, inr (len, offset, mid, left, (slots, (power, above, half), is), reserves, refused)) =
        let same : slots ≡ power_above s.count = power_is s.count slots power (omega arith) (omega (arith, half)) in
        let len_is : len ≡ queue_len s = is ∙ ap (λ (n : ℕ). 4 * n) same in
        zone_never error (queue_name name) (queue_len s) mid left
        (subst (IsNext (queue_name name)) (sym (name_reserved table mid _ (object_name name) reserves.table refl)) queue)
        (let l = long s fits in let w = (within s fits).count.1 in (omega arith, omega arith))
        (more offset left reserves.taken) (subst (λ (n : ℕ). IsZoneRefused error (queue_name name) n 0 mid left) len_is refused)
