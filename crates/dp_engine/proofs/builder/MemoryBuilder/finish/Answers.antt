-- The last pool of a builder: what is free for it is derived once.
use Rattle.std.proofs.Common.{◌≡◌, ◌+◌, ◌-◌, ◌*◌, ◌%◌, ap, sym, subst, ◌∙◌, arith, List, length}
use Rattle.dp_heap.specs.Elements.{freed}
use Rattle.dp_heap.specs.Laid.{HeapView}
use Rattle.dp_zone.specs.Zones.{Reserved}
use Rattle.dp_engine.specs.Names.{AllBefore, first_pool}
use Rattle.dp_engine.specs.Needs.{objects_len}
use Rattle.dp_engine.specs.Builders.{BuilderView, Has, bottom, block_at, names_of, size_of}
use Rattle.dp_engine.proofs.NameLemmas.{without_before, without_few}
use Rattle.dp_engine.proofs.BuilderLemmas.{merged_size}
use Rattle.dp_engine.proofs.Building.{released, last_objects, last_queue}
use Rattle.dp_engine.proofs.builder.MemoryBuilder.finish.Goals as goal
use Rattle.dp_engine.proofs.builder.MemoryBuilder.finish.Goals.{After-give_back}

-- the spare zone is free again, and so is all below
back : (c : After-give_back) → Has (bottom c.args.self.left) c.give_back.new.heap.elements
    × Has (freed (block_at (c.self.inside.spare.offset - 64) (length c.self.inside.spare.bytes))) c.give_back.new.heap.elements
    × (c.args.self.left % 64 ≡ 0)
back c =
    let view = ap (λ (v : BuilderView). length v.names) c.self.view_is in
    released c.self.inside.heap c.self.inside.zones c.self.inside.spare c.args.self.left c.give_back.new.heap.elements c.self.invariant
    (ap (λ (v : BuilderView). v.left) c.self.view_is) (omega (arith, view, c.requires.some)) (ap (λ (h : HeapView). h.elements) c.give_back.ensures.heap)

pub make-pool-requires-clause-names : goal.make-pool-requires-clause-names
make-pool-requires-clause-names c =
    subst (λ (t : List Reserved). AllBefore (first_pool + 10 * c.args.k) (names_of t)) (sym c.give_back.ensures.table)
    (without_before (first_pool + 10 * c.args.k) c.self.inside.spare.name c.self.inside.zones
    (subst (AllBefore (first_pool + 10 * c.args.k)) (sym (ap (λ (v : BuilderView). v.names) c.self.view_is)) c.requires.names))

pub make-pool-requires-clause-few : goal.make-pool-requires-clause-few
make-pool-requires-clause-few c =
    let less = without_few c.self.inside.spare.name c.self.inside.zones in
    let is = ap (λ (t : List Reserved). length (names_of t)) c.give_back.ensures.table in
    let view = ap (λ (v : BuilderView). length v.names) c.self.view_is in
    let few = c.requires.few in
    omega (arith, less, is, view, few)

pub make-pool-requires-clause-objects : goal.make-pool-requires-clause-objects
make-pool-requires-clause-objects c = λ none.
    let (low, _, even) = back (goal.at.make-pool-requires-clause-objects c).After-give_back in
    last_objects c.args.self.left (objects_len c.args.spec) c.give_back.new.heap.elements low even c.requires.room none

pub make-pool-requires-clause-queue : goal.make-pool-requires-clause-queue
make-pool-requires-clause-queue c = λ offset mid taken none.
    let (_, high, _) = back (goal.at.make-pool-requires-clause-queue c).After-give_back in
    last_queue c.self.inside.spare.offset (length c.self.inside.spare.bytes) offset c.args.spec c.give_back.new.heap.elements mid c.requires.spec
    c.self.invariant.high c.self.invariant.even
    (ap (λ (v : BuilderView). v.spare) c.self.view_is ∙ c.requires.spare) high taken none

pub returns-clause-same : goal.returns-clause-same
returns-clause-same c = (
  c.make-pool.ensures.home ∙ ap (λ (h : HeapView). h.home) c.give_back.ensures.heap ∙ ap (λ (v : BuilderView). v.home) c.self.view_is,
  c.make-pool.ensures.size ∙ ap (λ (h : HeapView). size_of h.elements) c.give_back.ensures.heap
      ∙ merged_size c.self.inside.spare.offset c.self.inside.heap.elements ∙ ap (λ (v : BuilderView). v.size) c.self.view_is,
)
