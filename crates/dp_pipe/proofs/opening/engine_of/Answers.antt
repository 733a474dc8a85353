-- `engine_of`: the engine that was opened is that of the pipeline.
use Rattle.std.proofs.Common.{◌≡◌, ◌∙◌, ◌≤◌, sym, ap, subst, arith, length}
use Rattle.std.proofs.lemmas.Grind.{common_steps}
use Rattle.std.proofs.lemmas.List.{length-replicate}
use Rattle.dp_model.specs.Machine.{Setting}
use Rattle.dp_model.specs.Starts.{IsStart}
use Rattle.dp_engine.specs.Engines.{EngineState}
use Rattle.dp_engine.specs.Needs.{bytes_needed}
use Rattle.dp_engine.specs.Schemes.{AreNodes, nodes_of}
use Rattle.dp_engine.specs.Steps.{setting_of}
use Rattle.dp_load.specs.Laws.{few}
use Rattle.dp_pipe.proofs.opening.engine_of.Goals as goal
use Rattle.dp_pipe.proofs.opening.engine_of.Goals.{After-refuse}
use Rattle.dp_pipe.specs.Laws.{are_nodes}

-- its setting, from the parts of the pipeline
setting : (g : _) (c : After-refuse g) → c.refuse.new.self.setting ≡ setting_of c.into_parts-env.result.0 c.into_parts-env.result.1.items c.args.pattern.items
setting g c =
    ap (λ (x : EngineState). x.setting) c.refuse.ensures
    ∙ ap (λ (x : Setting). record x { pattern = c.args.pattern.items }) c.in-Ok-open.ensures.opened.setting

pub open-requires : goal.open-requires
open-requires g c =
    let parts = c.into_parts-env.ensures in
    let (env, tables, nodes) = c.into_parts-env.result in
    let many : length tables.items ≡ env.tables = rw (parts.env, parts.tables) parts.plan.tables in
    let are : AreNodes env nodes.items =
    rw (parts.env, parts.nodes) (are_nodes c.args.pipeline.env c.args.pipeline.nodes parts.plan.nodes)
    in
    (omega arith, (c.in-Ok.ensures.1, (many, are)))

pub returns-clause-engine : goal.returns-clause-engine
returns-clause-engine g c =
    let opened = c.in-Ok-open.ensures.opened in
    let parts = c.into_parts-env.ensures in
    record {
      room = subst (λ n. bytes_needed c.args.pipeline.env ≤ n) (ap length c.in-Ok.ensures.0 ∙ length-replicate c.region.result 0
          ∙ c.region.ensures.same)
          (subst (λ e. bytes_needed e ≤ length c.in-Ok.region.bytes) parts.env c.in-Ok-open.ensures.room);
      setting = setting g (goal.at.returns-clause-engine g c).After-refuse
          ∙ ap (λ e. setting_of e c.into_parts-env.result.1.items c.args.pattern.items) parts.env
          ∙ ap (λ t. setting_of c.args.pipeline.env t c.args.pattern.items) parts.tables;
      tables_are = ap (λ (x : EngineState). x.tables) c.refuse.ensures ∙ (opened.tables_are ∙ parts.tables);
      nodes = ap (λ (x : EngineState). x.nodes) c.refuse.ensures ∙ opened.nodes ∙ ap (λ e. nodes_of e c.into_parts-env.result.2.items) parts.env
          ∙ ap (λ q. nodes_of c.args.pipeline.env q) parts.nodes;
      start = subst (λ e. IsStart e c.refuse.new.self.world) parts.env
          (subst (IsStart c.into_parts-env.result.0) (sym (ap (λ (x : EngineState). x.world) c.refuse.ensures)) opened.start);
      turns = ap (λ (x : EngineState). x.turns) c.refuse.ensures ∙ opened.turns;
      tallies = ap (λ (x : EngineState). x.tallies) c.refuse.ensures ∙ opened.tallies;
      left = ap (λ (x : EngineState). x.left) c.refuse.ensures ∙ opened.left;
    }

pub returns-clause-few : goal.returns-clause-few
returns-clause-few g c =
    let same = ap (λ (x : Setting). length x.env.ports) (setting g (goal.at.returns-clause-few g c).After-refuse) in
    let ports = ap (λ e. length e.ports) c.into_parts-env.ensures.env in
    omega (arith, same, ports, (few c.args.pipeline.env c.into_parts-env.ensures.plan.limits).0)

pub unreachable-requires : goal.unreachable-requires
unreachable-requires g c = grind (arith, common_steps)
