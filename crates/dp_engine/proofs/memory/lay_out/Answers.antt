-- The zones of an engine, laid out: what they take in all, and what is left below each, is derived once, and each goal follows from that.
use Rattle.std.proofs.Common.{◌≡◌, ℕ, ◌+◌, ◌-◌, ◌*◌, ◌≤◌, List, length, map, take, get_or, sym, ap, subst, ◌∙◌, arith}
use Rattle.std.specs.List.{AllByRecursion}
use Rattle.std.proofs.lemmas.List.{length-take-le}
use Rattle.std.proofs.lemmas.Grind.{common_steps}
use Rattle.dp_ring.specs.Rings.{IsCount}
use Rattle.dp_model.specs.declared.env.PoolSpec.{PoolSpec}
use Rattle.dp_model.specs.declared.env.PortSpec.{PortSpec}
use Rattle.dp_model.specs.declared.env.RingSpec.{RingSpec}
use Rattle.dp_engine.specs.Needs.{zone_bytes, objects_len, pool_bytes, ring_bytes, total, list_counts, ring_counts}
use Rattle.dp_engine.specs.Memories.{IsNewPool}
use Rattle.dp_engine.proofs.Filled.{next_empty}
use Rattle.dp_engine.proofs.NameLemmas.{before_later}
use Rattle.dp_engine.proofs.Plans.{IsPlan, plan, some_pools, laid_out, rings_of, last_filled, no_spec}
use Rattle.dp_engine.proofs.memory.lay_out.Goals as goal
use Rattle.dp_engine.proofs.memory.lay_out.Goals.{After-power_above, After-as_slice, After-as_slice-2}

-- the slots of the transmit lists and the rings
lists_are : (c : After-power_above) → c.list_counts-lists.result.items ≡ list_counts c.args.env.now
lists_are c = c.list_counts-lists.ensures ∙ ap (λ (xs : List PortSpec). map (λ x. x.queue) xs) c.ports.ensures

rings_are : (c : After-power_above) → c.ring_counts-rings.result.items ≡ ring_counts c.args.env.now
rings_are c = c.ring_counts-rings.ensures ∙ ap (λ (xs : List RingSpec). map (λ x. x.count) xs) c.rings.ensures

-- all pools but the last are made first, and all have room in a region of this size
abbrev PlanOf : List PoolSpec → List ℕ → List ℕ → ℕ → Type 0
PlanOf specs lists rings size = IsPlan specs lists rings size (length specs - 1) (get_or specs (length specs - 1) no_spec)

planned : (c : After-power_above)
    → PlanOf c.pools-specs.result.now c.list_counts-lists.result.items c.ring_counts-rings.result.items (length c.args.region.bytes)
planned c =
    let some = some_pools c.args.env.now c.pools-specs.ensures.fits in
    let all = ap length c.pools-specs.ensures.same in
    plan c.args.env.now c.pools-specs.result.now c.list_counts-lists.result.items c.ring_counts-rings.result.items (length c.args.region.bytes)
    (length c.pools-specs.result.now - 1) no_spec c.pools-specs.ensures.fits c.pools-specs.ensures.same (lists_are c) (rings_are c) c.requires.room
    (omega (arith, some, all))

-- what the pools take, but for the queue of the last
abbrev pools_take : List PoolSpec → ℕ
pools_take specs = total pool_bytes (take (length specs - 1) specs) + zone_bytes (objects_len (get_or specs (length specs - 1) no_spec))

-- what is left below the spare zone, and below the transmit lists
below_spare : (c : After-as_slice)
    → PlanOf c.pools-specs.result.now c.list_counts-lists.result.items c.ring_counts-rings.result.items (length c.args.region.bytes)
    → total ring_bytes c.as_slice.result.now + total ring_bytes c.ring_counts-rings.result.items + pools_take c.pools-specs.result.now
    ≤ c.over-builder.result.left
below_spare c p = omega (arith, c.power_above.ensures.value, p.sum, c.over-builder.ensures.left, ap (total ring_bytes) c.as_slice.ensures.value)

below_lists : (c : After-as_slice-2)
    → PlanOf c.pools-specs.result.now c.list_counts-lists.result.items c.ring_counts-rings.result.items (length c.args.region.bytes)
    → total ring_bytes c.as_slice-2.result.now + pools_take c.pools-specs.result.now ≤ c.take_rings-lists.new.self.left
below_lists c p =
    omega (
      arith,
      c.power_above.ensures.value,
      p.sum,
      c.over-builder.ensures.left,
      ap (total ring_bytes) c.as_slice.ensures.value,
      c.take_rings-lists.ensures.left,
      ap (total ring_bytes) c.as_slice-2.ensures.value,
    )

pub over-builder-requires-clause-len : goal.over-builder-requires-clause-len
over-builder-requires-clause-len c =
    let p = planned c in
    let v = c.power_above.ensures.value in
    (omega (arith, p.queue.0, v), omega (arith, p.queue.1, v))

pub over-builder-requires-clause-room : goal.over-builder-requires-clause-room
over-builder-requires-clause-room c =
    let p = planned c in
    omega (arith, c.power_above.ensures.value, p.sum, p.objects)

pub take_rings-lists-requires-clause-counts : goal.take_rings-lists-requires-clause-counts
take_rings-lists-requires-clause-counts c =
    subst (λ (xs : List ℕ). AllByRecursion IsCount xs) (sym c.as_slice.ensures.value)
    (planned (goal.at.take_rings-lists-requires-clause-counts c).After-power_above).lists_fit

pub take_rings-lists-requires-clause-room : goal.take_rings-lists-requires-clause-room
take_rings-lists-requires-clause-room c =
    let p = planned (goal.at.take_rings-lists-requires-clause-room c).After-power_above in
    omega (arith, below_spare c p, p.objects)

pub take_rings-rings-requires-clause-counts : goal.take_rings-rings-requires-clause-counts
take_rings-rings-requires-clause-counts c =
    subst (λ (xs : List ℕ). AllByRecursion IsCount xs) (sym c.as_slice-2.ensures.value)
    (planned (goal.at.take_rings-rings-requires-clause-counts c).After-power_above).rings_fit

pub take_rings-rings-requires-clause-room : goal.take_rings-rings-requires-clause-room
take_rings-rings-requires-clause-room c =
    let p = planned (goal.at.take_rings-rings-requires-clause-room c).After-power_above in
    omega (arith, below_lists c p, p.objects)

pub take_rings-rings-requires-clause-names : goal.take_rings-rings-requires-clause-names
take_rings-rings-requires-clause-names c =
    let few = (planned (goal.at.take_rings-rings-requires-clause-names c).After-power_above).lists_few.1 in
    let many = ap length c.as_slice.ensures.value in
    before_later (1485 + 10 * length c.as_slice.result.now) 2485 c.take_rings-lists.new.self.names (omega (arith, many, few)) c.take_rings-lists.ensures.names.0

pub take_pools-pools-requires-clause-specs : goal.take_pools-pools-requires-clause-specs
take_pools-pools-requires-clause-specs c = (planned (goal.at.take_pools-pools-requires-clause-specs c).After-power_above).firsts

pub take_pools-pools-requires-clause-room : goal.take_pools-pools-requires-clause-room
take_pools-pools-requires-clause-room c =
    let here = goal.at.take_pools-pools-requires-clause-room c in
    let p = planned here.After-power_above in
    omega (arith, below_lists here.After-as_slice-2 p, c.take_rings-rings.ensures.left, p.objects)

pub take_pools-pools-requires-clause-names : goal.take_pools-pools-requires-clause-names
take_pools-pools-requires-clause-names c =
    let few = (planned (goal.at.take_pools-pools-requires-clause-names c).After-power_above).rings_few in
    let many = ap length c.as_slice-2.ensures.value in
    before_later (2485 + 10 * length c.as_slice-2.result.now) 3485 c.take_rings-rings.new.self.names (omega (arith, many, few))
    c.take_rings-rings.ensures.names.0

pub finish-heap-requires-clause-spec : goal.finish-heap-requires-clause-spec
finish-heap-requires-clause-spec c = (planned (goal.at.finish-heap-requires-clause-spec c).After-power_above).fits

pub finish-heap-requires-clause-room : goal.finish-heap-requires-clause-room
finish-heap-requires-clause-room c =
    let here = goal.at.finish-heap-requires-clause-room c in
    let lists = below_lists here.After-as_slice-2 (planned here.After-power_above) in
    omega (arith, lists, c.take_rings-rings.ensures.left, c.take_pools-pools.ensures.left)

pub take_rings-lists-requires-clause-number : goal.take_rings-lists-requires-clause-number
take_rings-lists-requires-clause-number c =
    let p = planned (goal.at.take_rings-lists-requires-clause-number c).After-power_above in
    omega (arith, ap length c.as_slice.ensures.value, p.lists_few.1)

pub take_rings-lists-requires-clause-names : goal.take_rings-lists-requires-clause-names
take_rings-lists-requires-clause-names c = c.over-builder.ensures.names.0

pub take_rings-lists-requires-clause-few : goal.take_rings-lists-requires-clause-few
take_rings-lists-requires-clause-few c =
    let p = planned (goal.at.take_rings-lists-requires-clause-few c).After-power_above in
    omega (arith, c.over-builder.ensures.names.1, ap length c.as_slice.ensures.value, p.lists_few.1)

pub take_rings-rings-requires-clause-number : goal.take_rings-rings-requires-clause-number
take_rings-rings-requires-clause-number c =
    let p = planned (goal.at.take_rings-rings-requires-clause-number c).After-power_above in
    omega (arith, ap length c.as_slice-2.ensures.value, p.rings_few)

pub finish-heap-requires-clause-number : goal.finish-heap-requires-clause-number
finish-heap-requires-clause-number c = let p = planned (goal.at.finish-heap-requires-clause-number c).After-power_above in omega (arith, p.number.0, p.number.1)

pub take_rings-rings-requires-clause-few : goal.take_rings-rings-requires-clause-few
take_rings-rings-requires-clause-few c =
    let p = planned (goal.at.take_rings-rings-requires-clause-few c).After-power_above in
    let lists = ap length c.as_slice.ensures.value in
    let rings = ap length c.as_slice-2.ensures.value in
    omega (arith, c.over-builder.ensures.names.1, c.take_rings-lists.ensures.names.1, lists, rings, p.lists_few.1, p.rings_few)

-- all pools but the last
firsts_of : (c : After-power_above)
    → PlanOf c.pools-specs.result.now c.list_counts-lists.result.items c.ring_counts-rings.result.items (length c.args.region.bytes)
    → length (take (length c.pools-specs.result.now - 1) c.pools-specs.result.now) ≡ length c.pools-specs.result.now - 1
firsts_of c p = length-take-le (length c.pools-specs.result.now - 1) c.pools-specs.result.now (omega (arith, p.number.0))

pub slice_bounds-take_pools-end : goal.slice_bounds-take_pools-end
slice_bounds-take_pools-end c = let here = (goal.at.slice_bounds-take_pools-end c).After-power_above in sym (firsts_of here (planned here))

pub take_pools-pools-requires-clause-number : goal.take_pools-pools-requires-clause-number
take_pools-pools-requires-clause-number c =
    let here = (goal.at.take_pools-pools-requires-clause-number c).After-power_above in
    let p = planned here in
    omega (arith, firsts_of here p, p.number.0, p.number.1)

pub take_pools-pools-requires-clause-few : goal.take_pools-pools-requires-clause-few
take_pools-pools-requires-clause-few c =
    let here = (goal.at.take_pools-pools-requires-clause-few c).After-power_above in
    let p = planned here in
    let lists = ap length c.as_slice.ensures.value in
    let rings = ap length c.as_slice-2.ensures.value in
    let names = c.over-builder.ensures.names.1 in
    omega (
      arith,
      firsts_of here p,
      p.number.0,
      p.number.1,
      names,
      c.take_rings-lists.ensures.names.1,
      c.take_rings-rings.ensures.names.1,
      lists,
      rings,
      p.lists_few.1,
      p.rings_few,
    )

pub listed : goal.listed
listed c =
    let p = planned (goal.at.listed c).After-power_above in
    omega (arith, p.number.0, p.number.1, c.take_pools-pools.ensures.slots)

pub offset_bounds-pools-last : goal.offset_bounds-pools-last
offset_bounds-pools-last c = let p = planned (goal.at.offset_bounds-pools-last c).After-power_above in omega (arith, p.number.0, p.number.1)

pub bounds-pools-last : goal.bounds-pools-last
bounds-pools-last c = let p = planned (goal.at.bounds-pools-last c).After-power_above in omega (arith, p.number.0, p.number.1)

pub put_pool-requires : goal.put_pool-requires
put_pool-requires c =
    let p = planned (goal.at.put_pool-requires c).After-power_above in
    let number = p.number.0 in
    let few = p.number.1 in
    let slots = c.take_pools-pools.ensures.slots in
    next_empty (IsNewPool c.take_rings-rings.new.self.home) c.pools-specs.result.now c.take_pools-pools.result (length c.pools-specs.result.now - 1) _
    (omega (arith, number)) (omega (arith, number, few, slots)) c.take_pools-pools.ensures.pools

pub returns : goal.returns
returns c =
    let e = c.args.env.now in
    let specs = c.pools-specs.result.now in
    let i = length c.pools-specs.result.now - 1 in
    let p = planned (goal.at.returns c).After-power_above in
    let all = ap length c.pools-specs.ensures.same in
    let number = p.number.0 in
    let few = p.number.1 in
    let slots = c.take_pools-pools.ensures.slots in
    let home1 = c.over-builder.ensures.same.0 in
    let home2 = c.take_rings-lists.ensures.same.0 ∙ home1 in
    let home3 = c.take_rings-rings.ensures.same.0 ∙ home2 in
    let home4 = c.take_pools-pools.ensures.same.0 ∙ home3 in
    let size = c.finish-heap.ensures.same.1 ∙ c.take_pools-pools.ensures.same.1 ∙ c.take_rings-rings.ensures.same.1 ∙ c.take_rings-lists.ensures.same.1
    ∙ c.over-builder.ensures.same.1 in
    let lists : c.as_slice.result.now ≡ list_counts e = c.as_slice.ensures.value ∙ lists_are (goal.at.returns c).After-power_above in
    let rings : c.as_slice-2.result.now ≡ ring_counts e = c.as_slice-2.ensures.value ∙ rings_are (goal.at.returns c).After-power_above in
    let counted = c.finish-heap.ensures.counted in
    let n1 = c.over-builder.ensures.names.1 in
    let n2 = c.take_rings-lists.ensures.names.1 in
    let n3 = c.take_rings-rings.ensures.names.1 in
    let n4 = c.take_pools-pools.ensures.names.1 in
    let firsts = length-take-le i specs (omega (arith, number)) in
    let many_lists = ap length lists in
    let many_rings = ap length rings in
    laid_out e c.args.region.home (length c.args.region.bytes) _ _ c.pools-specs.ensures.fits (c.finish-heap.ensures.same.0 ∙ home4) size
    (last_filled c.args.region.home c.take_rings-rings.new.self.home c.take_pools-pools.new.self.home specs e.pools c.take_pools-pools.result i no_spec
    c.finish-heap.result.2 c.put_pool.new.slot number (omega (arith, number, few, slots))
    c.take_pools-pools.ensures.same.0 home3 c.pools-specs.ensures.same c.take_pools-pools.ensures.pools c.finish-heap.ensures.pool c.put_pool.ensures)
    (rings_of c.take_rings-lists.new.self.home c.args.region.home c.as_slice-2.result.now (ring_counts e) c.take_rings-rings.result home2 rings
    c.take_rings-rings.ensures.rings)
    (rings_of c.over-builder.result.home c.args.region.home c.as_slice.result.now (list_counts e) c.take_rings-lists.result home1 lists
    c.take_rings-lists.ensures.rings)
    (omega (arith, counted, n1, n2, n3, n4, firsts, many_lists, many_rings, number, all))

pub power_above-requires : goal.power_above-requires
power_above-requires c = grind (arith, common_steps)

pub overflow_mul-power_above : goal.overflow_mul-power_above
overflow_mul-power_above c = grind (arith, common_steps)

pub bounds-specs-last-2 : goal.bounds-specs-last-2
bounds-specs-last-2 c = grind (arith, common_steps)

pub finish-heap-requires-clause-spare : goal.finish-heap-requires-clause-spare
finish-heap-requires-clause-spare c = grind (arith, common_steps)

pub finish-heap-requires-clause-names : goal.finish-heap-requires-clause-names
finish-heap-requires-clause-names c = grind (arith, common_steps)

pub finish-heap-requires-clause-some : goal.finish-heap-requires-clause-some
finish-heap-requires-clause-some c = grind (arith, common_steps)

pub finish-heap-requires-clause-few : goal.finish-heap-requires-clause-few
finish-heap-requires-clause-few c = grind (arith, common_steps)
