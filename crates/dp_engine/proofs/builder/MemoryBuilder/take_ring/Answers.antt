use Rattle.std.proofs.Common.{ap, ◌∙◌, List, ℕ, ◌∷◌, ◌++◌, []}
use Rattle.dp_engine.proofs.NameLemmas.{ring_taken}
use Rattle.dp_engine.proofs.builder.MemoryBuilder.take_ring.Goals as goal

pub returns-clause-names : goal.returns-clause-names
returns-clause-names c =
    ring_taken c.args.kind c.args.k c.args.self.now.names c.take-zone.new.self.names c.requires.number c.requires.names
    (c.take-zone.ensures.names ∙ ap (λ (n : List ℕ). c.args.self.now.names ++ n ∷ []) c.ring_name.ensures)
