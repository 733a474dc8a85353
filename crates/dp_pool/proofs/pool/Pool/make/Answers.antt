-- Either both zones are last in the table, or neither is.
use Rattle.std.proofs.Common.{◌≡◌, ◌⊎◌, ℕ, ◌*◌, List, inl, inr, refl, ap, ap₂, sym, subst, ◌∙◌}
use Rattle.dp_heap.specs.declared.elements.Element.{Element}
use Rattle.dp_zone.specs.Zones.{Reserved, IsZoneRefused, without_name}
use Rattle.dp_pool.specs.declared.error.PoolError.{PoolError}
use Rattle.dp_pool.specs.declared.error.PoolError.TheVariants.{BadCount, BadSize, BadCache}
use Rattle.dp_pool.specs.Making.{IsPoolCount, IsObjectSize, IsCacheSize, IsPoolRefused, Reserves, object_name, queue_name, object_len}
use Rattle.dp_pool.proofs.Names.{without_last, given_back, as_before}
use Rattle.dp_pool.proofs.pool.Pool.make.Goals as goal

pub returns-in-Err-reserve-clause-kept : goal.returns-in-Err-reserve-clause-kept
returns-in-Err-reserve-clause-kept c =
    let objects = c.in-Ok.ensures in
    let refused = c.in-Err-reserve.ensures in
    let name = objects.zone.0 in (
      c.give_back.ensures.table
          ∙ (ap₂ (λ n t. without_name n t) name (refused.kept.0 ∙ objects.reserves.table)
          ∙ without_last (object_name c.args.name.now) c.args.zones.now _ objects.reserves.reservable.fresh refl),
      c.give_back.ensures.heap
          ∙ (ap (given_back c.in-Ok.objects.offset) refused.kept.1
          ∙ as_before c.in-Ok.objects.offset c.args.heap.now c.reserve.new.heap objects.home objects.undone),
    )

refused_numbers_are : (error : PoolError) (name : List ℕ) (count size cache : ℕ) (table : List Reserved) (es : List Element) →
    (error ≡ BadCount × ¬ IsPoolCount count) ⊎ ((error ≡ BadSize × IsPoolCount count × ¬ IsObjectSize size)
    ⊎ (error ≡ BadCache × IsPoolCount count × IsObjectSize size × ¬ IsCacheSize count cache)) → IsPoolRefused error name count size cache table es
refused_numbers_are error name count size cache table es (inl (is, other)) =
    subst (λ e. IsPoolRefused e name count size cache table es) (sym is) other
refused_numbers_are error name count size cache table es (inr (inl (is, count_fits, other))) =
    subst (λ e. IsPoolRefused e name count size cache table es) (sym is) (count_fits, other)
refused_numbers_are error name count size cache table es (inr (inr (is, count_fits, size_fits, other))) =
    subst (λ e. IsPoolRefused e name count size cache table es) (sym is) (count_fits, size_fits, other)

pub returns-in-Some-clause-refused : goal.returns-in-Some-clause-refused
returns-in-Some-clause-refused c =
    refused_numbers_are c.in-Some.error c.args.name.now c.args.count c.args.size c.args.cache c.args.zones.now c.args.heap.now.elements c.in-Some.ensures.some

pub returns-in-Err-clause-refused : goal.returns-in-Err-clause-refused
returns-in-Err-clause-refused c =
    let (count, size, cache) = c.in_default.ensures.none in (
      count,
      size,
      cache,
      inl (subst (λ n. IsZoneRefused c.in-Err.error (object_name c.args.name.now) (c.args.count * n) 0 c.args.zones.now c.args.heap.now.elements)
          c.stride_of.ensures c.in-Err.ensures.refused),
    )

pub returns-in-Err-reserve-clause-refused : goal.returns-in-Err-reserve-clause-refused
returns-in-Err-reserve-clause-refused c =
    let (count, size, cache) = c.in_default.ensures.none in (
      count,
      size,
      cache,
      inr (
        4 * c.queue_count-slots.result,
        c.in-Ok.objects.offset,
        c.reserve.new.zones,
        c.reserve.new.heap.elements,
        (c.queue_count-slots.result, c.queue_count-slots.ensures.next, refl),
        subst (λ n. Reserves (object_name c.args.name.now) (c.args.count * n) c.args.zones.now c.args.heap.now.elements c.in-Ok.objects.offset
            c.reserve.new.zones c.reserve.new.heap.elements) c.stride_of.ensures c.in-Ok.ensures.reserves,
        c.in-Err-reserve.ensures.refused,
      ),
    )

pub returns-clause-made : goal.returns-clause-made
returns-clause-made c =
    let objects = c.in-Ok.ensures in
    let queue = c.in-Ok-reserve.ensures in
    let (count, size, cache) = c.in_default.ensures.none in
    let made = c.over.ensures in
    let (size_is, cache_is, cached, length_is, all_in) = made.numbers in
    record {
      count = count;
      size_fits = size;
      cache_fits = cache;
      size_is = size_is;
      cache_is = cache_is;
      cached = cached;
      objects = length_is;
      all_in = all_in;
      home_is = ap (λ z. z.home) made.zones ∙ objects.zone.1;
      names = (ap (λ z. z.object_name) made.zones ∙ objects.zone.0, ap (λ z. z.queue_name) made.zones ∙ queue.zone.0);
      len = 4 * c.queue_count-slots.result;
      len_is = (c.queue_count-slots.result, c.queue_count-slots.ensures.next, refl);
      mid = c.reserve.new.zones;
      left = c.reserve.new.heap.elements;
      objects_reserved =
          subst (λ p. Reserves (object_name c.args.name.now) (object_len c.args.count c.args.size) c.args.zones.now c.args.heap.now.elements p
          c.reserve.new.zones c.reserve.new.heap.elements) (sym (ap (λ z. z.object_offset) made.zones))
          (subst (λ n. Reserves (object_name c.args.name.now) (c.args.count * n) c.args.zones.now c.args.heap.now.elements c.in-Ok.objects.offset
          c.reserve.new.zones c.reserve.new.heap.elements) c.stride_of.ensures objects.reserves);
      queue_reserved =
          subst (λ p. Reserves (queue_name c.args.name.now) (4 * c.queue_count-slots.result) c.reserve.new.zones c.reserve.new.heap.elements p
          c.reserve-2.new.zones c.reserve-2.new.heap.elements) (sym (ap (λ z. z.queue_offset) made.zones))
          queue.reserves;
    }
