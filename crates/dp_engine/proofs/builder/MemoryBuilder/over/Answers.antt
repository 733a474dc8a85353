-- A builder over a region: what it is is derived once.
use Rattle.std.proofs.Common.{◌≡◌, ◌+◌, ap, refl, sym, subst, ◌∙◌, arith, List, length}
use Rattle.dp_heap.specs.declared.elements.Element.{Element}
use Rattle.dp_heap.specs.Elements.{rounded, NothingFits, Taken}
use Rattle.dp_zone.specs.Zones.{Reserved}
use Rattle.dp_engine.specs.Needs.{zone_bytes}
use Rattle.dp_engine.specs.Builders.{IsBuilder, left_in}
use Rattle.dp_engine.proofs.Building.{builder_new, new_fits, table_more}
use Rattle.dp_engine.proofs.builder.MemoryBuilder.over.Goals as goal
use Rattle.dp_engine.proofs.builder.MemoryBuilder.over.Goals.{After-reserve-spare}

pub reserve-spare-requires-clause-room : goal.reserve-spare-requires-clause-room
reserve-spare-requires-clause-room c = λ none.
    new_fits (length c.args.region.bytes) c.args.len c.new-heap.ensures.size.2 c.requires.room
    (subst (λ (es : List Element). NothingFits (rounded c.args.len) 64 es) c.new-heap.ensures.one none)

-- the spare zone is at the top, and the rest below it
built : (c : After-reserve-spare) → IsBuilder c.reserve-spare.new.heap c.reserve-spare.new.zones c.reserve-spare.result
    × (left_in c.reserve-spare.new.heap.elements + zone_bytes c.args.len ≡ length c.args.region.bytes)
built c =
    let r = c.reserve-spare.ensures in
    let none = c.new-heap.ensures.counted in
    let one = r.counted in
    let more = table_more c.new-zones.result c.reserve-spare.new.zones _ r.names in
    let empty = ap (λ (t : List Reserved). length t) c.new-zones.ensures in
    builder_new (length c.args.region.bytes) c.args.len c.reserve-spare.result.offset c.reserve-spare.new.heap c.reserve-spare.new.zones c.reserve-spare.result
    c.new-heap.ensures.size.2 c.requires.room
    (subst (λ (es : List Element). Taken es (rounded c.args.len) 64 c.reserve-spare.result.offset c.reserve-spare.new.heap.elements) c.new-heap.ensures.one
    r.taken)
    refl r.zone.1 (r.zone.0 ∙ sym r.home) (omega (arith, one, none)) (omega (arith, more, empty))

pub invariant_of-result : goal.invariant_of-result
invariant_of-result c = (built (goal.at.invariant_of-result c).After-reserve-spare).0

pub returns-clause-left : goal.returns-clause-left
returns-clause-left c = (built (goal.at.returns-clause-left c).After-reserve-spare).1
