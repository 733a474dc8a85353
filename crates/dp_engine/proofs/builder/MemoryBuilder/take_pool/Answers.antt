-- The next pool of a builder: what the builder is then is derived once.
use Rattle.std.proofs.Common.{◌≡◌, ◌+◌, ap, ◌∙◌, ◌∷◌, ◌++◌, [], length}
use Rattle.dp_pool.specs.Making.{object_name, queue_name}
use Rattle.dp_engine.specs.Names.{pool_name}
use Rattle.dp_engine.specs.Needs.{pool_bytes}
use Rattle.dp_engine.specs.Builders.{BuilderView, IsBuilder, left_in, names_of}
use Rattle.dp_engine.proofs.NameLemmas.{pool_taken, two_more}
use Rattle.dp_engine.proofs.Building.{pool_more, queue_fits}
use Rattle.dp_engine.proofs.builder.MemoryBuilder.take_pool.Goals as goal
use Rattle.dp_engine.proofs.builder.MemoryBuilder.take_pool.Goals.{After-make}

pub make-requires-clause-queue : goal.make-requires-clause-queue
make-requires-clause-queue c = λ offset mid taken none.
    queue_fits c.self.inside.heap c.self.inside.zones c.self.inside.spare c.args.spec c.args.self.now.left offset mid c.self.invariant
    (ap (λ (v : BuilderView). v.left) c.self.view_is) c.requires.room taken none

-- what the builder is then
built : (c : After-make) → IsBuilder c.make.new.heap c.make.new.zones c.self.inside.spare
    × (left_in c.make.new.heap.elements + pool_bytes c.args.spec ≡ c.args.self.now.left)
built c =
    pool_more c.self.inside.heap c.make.new.heap c.self.inside.zones c.make.new.zones c.self.inside.spare c.args.spec c.args.self.now.left c.self.invariant
    (ap (λ (v : BuilderView). v.left) c.self.view_is) c.requires.room c.make.ensures.taken c.make.ensures.home c.make.ensures.counted
    (ap length c.make.ensures.names ∙ two_more c.args.k (names_of c.self.inside.zones))

pub invariant_of-self : goal.invariant_of-self
invariant_of-self c = (built (goal.at.invariant_of-self c).After-make).0

pub returns-clause-left : goal.returns-clause-left
returns-clause-left c = (built (goal.at.returns-clause-left c).After-make).1

pub returns-clause-names : goal.returns-clause-names
returns-clause-names c =
    pool_taken c.args.k c.args.self.now.names (names_of c.make.new.zones) c.requires.number c.requires.names
    (c.make.ensures.names ∙ ap (λ (v : BuilderView). v.names ++ object_name (pool_name c.args.k) ∷ queue_name (pool_name c.args.k) ∷ []) c.self.view_is)
