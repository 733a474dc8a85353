use Rattle.std.proofs.Common.{refl, subst, List, ℕ, ◌+◌}
use Rattle.dp_heap.specs.Elements.{rounded}
use Rattle.dp_pool.specs.Making.{IsPoolRefused}
use Rattle.dp_engine.specs.Names.{pool_name}
use Rattle.dp_engine.specs.Needs.{objects_len, queue_len}
use Rattle.dp_engine.specs.Builders.{names_of}
use Rattle.dp_engine.proofs.NameLemmas.{object_next, queue_next}
use Rattle.dp_engine.proofs.Refusals.{pool_never}
use Rattle.dp_engine.proofs.Building.{made_two, two_size}
use Rattle.dp_engine.proofs.builder.make.Goals as goal

pub unreachable-requires : goal.unreachable-requires
unreachable-requires c =
    let s = c.args.spec in let names = names_of c.args.zones.now in
    pool_never c.in-Err.field-0 (pool_name c.args.k) s (s.room + 128) c.args.zones.now c.args.heap.now.elements c.requires.spec refl
    (object_next c.args.k names c.requires.number c.requires.names c.requires.few) (queue_next c.args.k names c.requires.number c.requires.names c.requires.few)
    c.requires.objects c.requires.queue
    (subst (λ (n : List ℕ). IsPoolRefused c.in-Err.field-0 n s.count (s.room + 128) s.cache c.args.zones.now c.args.heap.now.elements) c.pool_name.ensures
    c.in-Err.ensures.refused)

pub returns-clause-taken : goal.returns-clause-taken
returns-clause-taken c =
    made_two c.args.spec c.requires.spec refl c.in-Ok.ensures.made

pub returns-clause-size : goal.returns-clause-size
returns-clause-size c =
    two_size (rounded (objects_len c.args.spec)) (rounded (queue_len c.args.spec)) _ _
    (made_two c.args.spec c.requires.spec refl c.in-Ok.ensures.made)
