-- Taking zones and pools from a builder, and giving its spare zone back.
use Rattle.std.proofs.Common.{◌≡◌, ℕ, ◌+◌, ◌-◌, ◌*◌, ◌/◌, ◌%◌, ◌<◌, ◌≤◌, true, List, [], ◌∷◌, ◌++◌, length, refl, sym, ap, subst, ◌∙◌, arith}
use Rattle.dp_region.specs.Ownership.{Home}
use Rattle.dp_heap.specs.declared.elements.Element.{Element}
use Rattle.dp_heap.specs.Elements.{rounded, NothingFits, CanHold, Taken, freed, merged, count_of, is_busy}
use Rattle.dp_heap.specs.Laid.{HeapView}
use Rattle.dp_zone.specs.Zones.{Reserved, ZoneView}
use Rattle.dp_pool.specs.Pools.{PoolView}
use Rattle.dp_pool.specs.Making.{IsMade}
use Rattle.dp_model.specs.declared.env.PoolSpec.{PoolSpec}
use Rattle.dp_model.specs.Environments.{pool_fits}
use Rattle.dp_engine.specs.Needs.{power_above, zone_bytes, objects_len, queue_len, pool_bytes}
use Rattle.dp_engine.specs.Builders.{bottom, block_at, IsBuilt, IsBuilder, left_in, size_of, Has, names_of, TakesTwo}
use Rattle.dp_engine.proofs.NameLemmas.{names_counted, length_more}
use Rattle.dp_engine.proofs.Powers.{power_is}
use Rattle.dp_engine.proofs.Refusals.{within, long}
use Rattle.dp_engine.proofs.BuilderLemmas.{builder_taken, first_taken, builder_fits, top_freed, has_fits, has_stays, holds, taken_size}

pub table_more : (old new : List Reserved) (name : List ℕ) → names_of new ≡ names_of old ++ name ∷ [] → length new ≡ length old + 1
table_more old new name is = let was = names_counted old in let now = names_counted new in
    let more = ap length is ∙ length_more (names_of old) name in omega arith

-- ---- one zone

pub builder_more : (heap heap' : HeapView) (table table' : List Reserved) (spare : ZoneView) (len d left : ℕ) (name : List ℕ) → IsBuilder heap table spare →
    left_in heap.elements ≡ left
    → zone_bytes len + 128 < left → Taken heap.elements (rounded len) 64 d heap'.elements → heap'.home ≡ heap.home
    → count_of is_busy heap'.elements ≡ count_of is_busy heap.elements + 1 → names_of table' ≡ names_of table ++ name ∷ []
    → IsBuilder heap' table' spare × (left_in heap'.elements + zone_bytes len ≡ left)
builder_more heap heap' table table' spare len d left name is at room taken home counted names =
    let more = builder_taken (block_at (spare.offset - 64) (length spare.bytes)) heap.elements heap'.elements (rounded len) d refl is.built (omega arith)
    (omega arith) taken in
    let many = table_more table table' name names in let before = is.counted in let less = more.1 in
    (record { home = is.home ∙ sym home; even = is.even; high = is.high; built = more.0; counted = omega arith }, omega arith)

-- a builder over one free element
pub builder_new : (size len d : ℕ) (heap' : HeapView) (table' : List Reserved) (spare : ZoneView) → size % 64 ≡ 0 → zone_bytes len + 128 < size →
    Taken (bottom size ∷ []) (rounded len) 64 d heap'.elements
    → spare.offset ≡ d → length spare.bytes ≡ rounded len → spare.home ≡ heap'.home → count_of is_busy heap'.elements ≡ 1 → length table' ≡ 1
    → IsBuilder heap' table' spare × (left_in heap'.elements + zone_bytes len ≡ size)
builder_new size len d heap' table' spare even room taken at long home counted one =
    let (built, less, steps, high) = first_taken size (rounded len) d heap'.elements even (omega arith) (omega arith) taken in
    let same : d - 64 ≡ spare.offset - 64 = omega arith in (
      record {
        home = home;
        even = ap (λ (p : ℕ). p % 64) at ∙ steps;
        high = omega arith;
        built = subst (λ (p : ℕ). IsBuilt (block_at p (length spare.bytes)) heap'.elements) same
            (subst (λ (n : ℕ). IsBuilt (block_at (d - 64) n) heap'.elements) (sym long) built);
        counted = omega arith;
      },
      omega arith,
    )

pub new_fits : (size len : ℕ) → size % 64 ≡ 0 → zone_bytes len + 128 < size → NothingFits (rounded len) 64 (bottom size ∷ []) → ⊥
new_fits size len even room none = none.0 (size - rounded len) (holds size (rounded len) even (omega arith) (omega arith))

-- ---- a pool

pub made_two : {name : List ℕ} {size : ℕ} {home : Home} {old new : List Reserved} {before after : List Element} {p : PoolView} (s : PoolSpec) →
    pool_fits s ≡ true → size ≡ s.room + 128
    → IsMade name s.count size s.cache home old before p new after → TakesTwo before (rounded (objects_len s)) (rounded (queue_len s)) after
made_two {before = before} {after = after} {p = p} s fits sized made =
    let (slots, (power, above, half), is) = made.len_is in
    let same : slots ≡ power_above s.count = power_is s.count slots power (omega arith) (omega (arith, half)) in
    let len_is : made.len ≡ queue_len s = is ∙ ap (λ (n : ℕ). 4 * n) same in record {
      mid = made.left;
      offset = p.zones.object_offset;
      next = p.zones.queue_offset;
      first = subst (λ (n : ℕ). Taken before (rounded (s.count * ((n + 63) / 64 * 64))) 64 p.zones.object_offset made.left) sized made.objects_reserved.taken;
      second = subst (λ (n : ℕ). Taken made.left (rounded n) 64 p.zones.queue_offset after) len_is made.queue_reserved.taken;
    }

pub two_size : (n m : ℕ) (old new : List Element) → TakesTwo old n m new → size_of new ≡ size_of old
two_size n m old new two = taken_size m 64 two.next two.mid new two.second ∙ taken_size n 64 two.offset old two.mid two.first

pub pool_more : (heap heap' : HeapView) (table table' : List Reserved) (spare : ZoneView) (s : PoolSpec) (left : ℕ) → IsBuilder heap table spare →
    left_in heap.elements ≡ left
    → pool_bytes s + 128 < left → TakesTwo heap.elements (rounded (objects_len s)) (rounded (queue_len s)) heap'.elements → heap'.home ≡ heap.home
    → count_of is_busy heap'.elements ≡ count_of is_busy heap.elements + 2 → length (names_of table') ≡ length (names_of table) + 2
    → IsBuilder heap' table' spare × (left_in heap'.elements + pool_bytes s ≡ left)
pool_more heap heap' table table' spare s left is at room two home counted names =
    let t = block_at (spare.offset - 64) (length spare.bytes) in
    let once = builder_taken t heap.elements two.mid (rounded (objects_len s)) two.offset refl is.built (omega arith) (omega arith) two.first in
    let less = once.1 in
    let twice = builder_taken t two.mid heap'.elements (rounded (queue_len s)) two.next refl once.0 (omega arith) (omega arith) two.second in
    let least = twice.1 in
    let many = names_counted table in let more = names_counted table' in let before = is.counted in
    (record { home = is.home ∙ sym home; even = is.even; high = is.high; built = twice.0; counted = omega arith }, omega arith)

-- the queue has room once the objects are taken
pub queue_fits : (heap : HeapView) (table : List Reserved) (spare : ZoneView) (s : PoolSpec) (left offset : ℕ) (mid : List Element) →
    IsBuilder heap table spare → left_in heap.elements ≡ left
    → pool_bytes s + 128 < left → Taken heap.elements (rounded (objects_len s)) 64 offset mid → NothingFits (rounded (queue_len s)) 64 mid → ⊥
queue_fits heap table spare s left offset mid is at room taken none =
    let t = block_at (spare.offset - 64) (length spare.bytes) in
    let once = builder_taken t heap.elements mid (rounded (objects_len s)) offset refl is.built (omega arith) (omega arith) taken in
    let less = once.1 in
    builder_fits t mid (rounded (queue_len s)) once.0 (omega arith) (omega arith) none

-- ---- giving the spare zone back

built_even : (t : Element) (es : List Element) → IsBuilt t es → left_in es % 64 ≡ 0
built_even t [] built = absurd built
built_even t (e ∷ es) built = built.1

pub released : (heap : HeapView) (table : List Reserved) (spare : ZoneView) (left : ℕ) (new : List Element) → IsBuilder heap table spare →
    left_in heap.elements ≡ left → 2 ≤ length (names_of table)
    → new ≡ merged spare.offset heap.elements
    → Has (bottom left) new × Has (freed (block_at (spare.offset - 64) (length spare.bytes))) new × (left % 64 ≡ 0)
released heap table spare left new is at some new_is =
    let p = spare.offset in let high = is.high in
    let counted = is.counted in let many = names_counted table in
    let (low, top) = top_freed (p - 64) (length spare.bytes) heap.elements is.built (omega arith) in
    let offset : p - 64 + 0 + 64 ≡ p = omega arith in
    let back : merged (p - 64 + 0 + 64) heap.elements ≡ new = ap (λ (d : ℕ). merged d heap.elements) offset ∙ sym new_is in (
      subst (λ (es : List Element). Has (bottom left) es) back (subst (λ (n : ℕ). Has (bottom n) (merged (p - 64 + 0 + 64) heap.elements)) at low),
      subst (λ (es : List Element). Has (freed (block_at (p - 64) (length spare.bytes))) es) back top,
      ap (λ (n : ℕ). n % 64) (sym at) ∙ built_even (block_at (p - 64) (length spare.bytes)) heap.elements is.built,
    )

-- then the objects of the last pool have room below, and its queue where the spare zone was
pub last_objects : (left len : ℕ) (es : List Element) → Has (bottom left) es → left % 64 ≡ 0 → zone_bytes len ≤ left → NothingFits (rounded len) 64 es → ⊥
last_objects left len es has even room none = has_fits (bottom left) es (rounded len) 64 (left - rounded len) has
    (holds left (rounded len) even (omega arith) (omega arith)) none

pub last_queue : (p n offset : ℕ) (s : PoolSpec) (es mid : List Element) → pool_fits s ≡ true → 64 ≤ p → p % 64 ≡ 0 → n ≡ rounded (queue_len s) →
    Has (freed (block_at (p - 64) n)) es
    → Taken es (rounded (objects_len s)) 64 offset mid → NothingFits (rounded (queue_len s)) 64 mid → ⊥
last_queue p n offset s es mid fits high even is has taken none =
    let (objects, _, queue, _) = long s fits in let some = (within s fits).count.0 in
    let never : CanHold (freed (block_at (p - 64) n)) (rounded (objects_len s)) 64 offset → ⊥ = λ (_, _, low, up). omega arith in
    has_fits (freed (block_at (p - 64) n)) mid (rounded (queue_len s)) 64 p
    (has_stays (freed (block_at (p - 64) n)) es mid (rounded (objects_len s)) 64 offset has never taken) (refl, even, omega arith, omega arith) none
