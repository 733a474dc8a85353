use Rattle.std.proofs.Common.{◌≡◌, [], sym, ◌∙◌, ap, subst}
use Rattle.dp_model.specs.Machine.{live}
use Rattle.dp_model.specs.Runs.{between, with_empty_outboxes}
use Rattle.dp_engine.specs.Engines.{EngineState}
use Rattle.dp_engine.proofs.Emptied.{nothing_lives}
use Rattle.dp_engine.proofs.engine.Engine.flush.Goals as goal

pub returns-clause-empty : goal.returns-clause-empty
returns-clause-empty g c = c.flush_lists.ensures ∙ ap (λ (e : EngineState). record e { world = with_empty_outboxes e.world }) c.flush_rings.ensures

pub returns-clause-free : goal.returns-clause-free
returns-clause-free g c =
    subst (λ (x : EngineState). live (between x.world) ≡ []) (sym (returns-clause-empty g c)) (nothing_lives c.args.self.now)
