use Rattle.dp_engine.proofs.Refusals.{zone_never}
use Rattle.dp_engine.proofs.BuilderLemmas.{taken_size}
use Rattle.dp_heap.specs.Elements.{rounded}
use Rattle.dp_engine.proofs.builder.reserve.Goals as goal

pub unreachable-requires : goal.unreachable-requires
unreachable-requires c =
    zone_never c.in-Err.field-0 c.args.name.now c.args.len c.args.zones.now c.args.heap.now.elements c.requires.name c.requires.len c.requires.room
    c.in-Err.ensures.refused

pub returns-clause-size : goal.returns-clause-size
returns-clause-size c = taken_size (rounded c.args.len) 64 c.in-Ok.zone.offset c.args.heap.now.elements c.reserve.new.heap.elements c.in-Ok.ensures.taken
