-- A turn: what its port and the number of turns keep is derived once, and each goal is one step from there.
use Rattle.std.proofs.Common.{rules, ◌+◌, ◌<◌, Bool, List, length, sym, ◌∙◌, ap, subst, arith}
use Rattle.dp_model.specs.Runs.{Turn as IsTurn, Consumed, NeverStuck}
use Rattle.dp_model.specs.Safety.{Beginning, IsOfTurn}
use Rattle.dp_model.specs.Laws.Runs.{safe_never_stuck}
use Rattle.dp_engine.specs.Outcomes.{outcome_of}
use Rattle.dp_engine.specs.declared.report.Tallies.{Tallies}
use Rattle.dp_engine.specs.Engines.{EngineState, IsEngine, max_turns, records_of}
use Rattle.dp_engine.proofs.Turning.{turn_is, port_small, one_of_all, turned}
use Rattle.dp_engine.specs.Watching.{WatchesTurn}
use Rattle.dp_engine.proofs.Shown.{watches_turn}
use Rattle.dp_engine.proofs.engine.Engine.watched_turn.Goals as goal
use Rattle.dp_engine.proofs.engine.Engine.watched_turn.Goals.{After-arrive-outcome}

-- the port is one of eight
small : (g : _) (c : After-arrive-outcome g) → c.args.port < 8
small g c =
    port_small c.self.inside.context c.args.port c.arrive-outcome.ensures.pipeline
    (subst (λ (v : EngineState). c.args.port < length v.setting.env.ports) (sym c.self.view_is) c.requires.exists)

-- there can be one more turn
few : (g : _) (c : After-arrive-outcome g) → c.self.inside.turns < max_turns
few g c = omega (arith, ap (λ (v : EngineState). v.turns) c.self.view_is, c.requires.limit)

pub count-requires-clause-there : goal.count-requires-clause-there
count-requires-clause-there g c = small g (goal.at.count-requires-clause-there g c).After-arrive-outcome

pub count-requires-clause-few : goal.count-requires-clause-few
count-requires-clause-few g c =
    let here = (goal.at.count-requires-clause-few g c).After-arrive-outcome in
    let e = c.self.invariant in
    omega (arith, few g here, e.records, one_of_all records_of c.self.inside.tallies c.args.port (omega (arith, small g here, e.ports)))

pub invariant_of-self : goal.invariant_of-self
invariant_of-self g c =
    let here = (goal.at.invariant_of-self g c).After-arrive-outcome in
    let engine = c.self.inside in
    let m2 = c.serve-served.new.m in
    let a = c.arrive-outcome.ensures in
    let r = c.serve-served.ensures in
    subst (λ (tallies : List Tallies). IsEngine engine.context m2 engine.memory (engine.turns + 1) tallies engine.left) (sym c.count.ensures)
    (turned engine.context engine.machine m2 engine.memory engine.turns engine.tallies engine.left c.args.port (outcome_of c.arrive-outcome.result.0)
    c.self.invariant (few g here) (small g here) r.rests (r.frames ∙ a.frames) (omega (arith, a.calls, r.calls))
    (omega (arith, a.took.cuts_are, a.few_cuts, r.took.cuts_are, r.few_cuts)) (omega (arith, a.packets, r.packets)))

pub returns-clause-taken : goal.returns-clause-taken
returns-clause-taken g c =
    let m2 = c.serve-served.new.m in
    let outcome = outcome_of c.arrive-outcome.result.0 in
    let more = c.serve-served.result.runs in
    let (answers, turn) = subst (λ (v : EngineState). (answers : List Bool) × IsTurn v.setting v.nodes c.args.port c.args.bytes.now v.world outcome
    (c.runs_of.result + more) answers m2.state.world) c.self.view_is
    (turn_is c.self.inside.context c.args.port c.args.bytes.now c.self.inside.machine.state.world c.arrive-outcome.new.m.state.world m2.state.world outcome
    more (c.runs_of.result + more)
    (ap (λ n. n + more) c.runs_of.ensures.value) c.arrive-outcome.ensures.arrives c.serve-served.ensures.serves) in
    record {
      turn = (answers, turn);
      never_stuck = subst (λ (v : EngineState). (b : Beginning) → IsOfTurn v.setting v.nodes c.args.port c.args.bytes.now v.world b
          → NeverStuck v.setting b.program b.packet b.number b.world) c.self.view_is
          (λ b of. safe_never_stuck c.self.inside.context.setting b
          (c.arrive-outcome.ensures.safe.turn_runs c.args.port c.args.bytes.now c.self.inside.machine.state.world b c.self.invariant.rests.rest of));
      took = search rules;
      few = search rules;
      short =
          let took : Consumed c.args.self.now.world m2.state.world (c.arrive-outcome.result.1.steps + c.serve-served.result.steps)
          (c.arrive-outcome.result.1.cuts + c.serve-served.result.cuts) = search rules in
          let (few, ran, those, (steps, cuts, were, least, cut)) = c.budgets_are_as_they_read.ensures.turns c.args.self.now.setting c.args.self.now.nodes
          c.args.port c.args.bytes.now c.args.self.now.world m2.state.world outcome (c.runs_of.result + more) answers turn in
          (ran, those, omega (arith, took.steps_are, were.steps_are, least));
      lists = c.serve-served.ensures.rests.rest.ready.world.outboxes;
      rest = search rules;
    }

pub returns-clause-watched : goal.returns-clause-watched
returns-clause-watched g c =
    let p = c.self.inside.context in
    let outcome = outcome_of c.arrive-outcome.result.0 in
    let more = c.serve-served.result.runs in
    subst (λ
    (v : EngineState). WatchesTurn g.W.Watch.sees c.args.watch.now c.serve-served.new.watch v.setting v.nodes c.args.port c.args.bytes.now v.world outcome
    (c.runs_of.result + more) c.serve-served.new.m.state.world) c.self.view_is
    (watches_turn g.W.Watch.sees c.args.watch.now c.arrive-outcome.new.watch c.serve-served.new.watch p c.args.port c.args.bytes.now
    c.self.inside.machine.state.world c.arrive-outcome.new.m.state.world c.serve-served.new.m.state.world outcome more (c.runs_of.result + more)
    (ap (λ n. n + more) c.runs_of.ensures.value) c.arrive-outcome.ensures.watched c.serve-served.ensures.watched)
