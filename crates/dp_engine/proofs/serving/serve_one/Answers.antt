-- A node run on a packet that waits: what is served, and what that made, are derived once, and each goal is one step from there.
use Rattle.std.proofs.Common.{rules, ◌≡◌, Some, sym, ◌∙◌, ap, subst, arith}
use Rattle.dp_engine.specs.Handles.{Core}
use Rattle.dp_engine.specs.Serving.{ServesOne}
use Rattle.dp_engine.specs.Steps.{FitsIn}
use Rattle.dp_engine.proofs.Served.{Next, next_is, next_runs, next_serves, next_count, served_rests}
use Rattle.dp_model.specs.declared.env.Entry.TheVariants.{Ring}
use Rattle.dp_engine.specs.Watching.{Began}
use Rattle.dp_engine.proofs.Shown.{next_shows}
use Rattle.dp_engine.proofs.Turning.{ring_small}
use Rattle.dp_engine.proofs.serving.serve_one.Goals as goal
use Rattle.dp_engine.proofs.serving.serve_one.Goals.{After-setting-setting, After-run}

-- what is served
next : (g : _) (c : After-setting-setting g) → Next c.args.context.now.setting c.args.context.now.nodes c.args.m.now c.take_waiting.new.self c.in_ok-ring.ring
next g c =
    let p = c.args.context.now in
    next_is p.setting p.nodes c.args.m.now c.take_waiting.new.self c.in_ok-ring.ring c.requires.rests.rest c.in_ok-ring.ensures

-- and that
serves : (g : _) (c : After-run g)
    → Next c.args.context.now.setting c.args.context.now.nodes c.args.m.now c.take_waiting.new.self c.in_ok-ring.ring
    → ServesOne c.args.context.now c.args.m.now.state.world (Some c.run.result) c.run.new.m.state.world
serves g c n =
    let p = c.args.context.now in
    let m1 = c.take_waiting.new.self in
    let program = c.ring_program-program.result.now in
    let runs = rw c.setting-setting.ensures.same at c.run.ensures.over.runs in
    next_serves p program c.args.m.now m1 c.run.new.m c.in_ok-ring.ring c.run.result c.ring_program-program.ensures.same n runs c.run.ensures.over.took

pub ring_program-program-requires : goal.ring_program-program-requires
ring_program-program-requires g c = (omega arith, (next g (goal.at.ring_program-program-requires g c).After-setting-setting).there)

pub begin-requires : goal.begin-requires
begin-requires g c =
    let n = next g (goal.at.begin-requires g c).After-setting-setting in
    ring_small c.args.context.now c.in_ok-ring.ring c.setting-setting.ensures.pipeline n.there

pub run-requires : goal.run-requires
run-requires g c =
    let p = c.args.context.now in
    let m1 = c.take_waiting.new.self in
    let program = c.ring_program-program.result.now in
    let sound = next_runs p.setting p.nodes program c.args.m.now m1 c.in_ok-ring.ring c.setting-setting.ensures.safe c.setting-setting.ensures.pipeline.limits
    c.ring_program-program.ensures.same c.requires.rests.rest (next g (goal.at.run-requires g c).After-setting-setting) in
    let is = c.ring_program-program.ensures.program in
    let same = c.setting-setting.ensures.same in
    record { begins = record { can = rw same sound; is = is; few = search rules; few_cuts = search rules; pools = search rules; fits = search rules } }

pub returns-clause-serves : goal.returns-clause-serves
returns-clause-serves g c = serves g c (next g (goal.at.returns-clause-serves g c).After-setting-setting)

pub returns-clause-packets : goal.returns-clause-packets
returns-clause-packets g c =
    let p = c.args.context.now in
    let n = next g (goal.at.returns-clause-packets g c).After-setting-setting in
    let calls : c.take_waiting.new.self.state.world.calls ≡ c.args.m.now.state.world.calls = ap (λ (x : Core). x.state.world.calls) n.taken in
    omega (
      arith,
      calls,
      c.run.ensures.over.packets,
      next_count p.setting p.nodes c.args.m.now c.take_waiting.new.self c.in_ok-ring.ring c.requires.rests.idle n,
    )

pub returns-clause-rests : goal.returns-clause-rests
returns-clause-rests g c =
    let p = c.args.context.now in
    let n = next g (goal.at.returns-clause-rests g c).After-setting-setting in
    record {
      idle = c.run.ensures.over.idle;
      pools = c.run.ensures.over.pools ∙ (ap (λ (x : Core). x.pools) n.taken ∙ c.requires.rests.pools);
      fits = subst (FitsIn p.setting.env) (sym (c.run.ensures.over.frames ∙ ap (λ (x : Core). x.frames) n.taken)) c.requires.rests.fits;
      rest = served_rests p c.args.m.now c.run.new.m c.run.result c.setting-setting.ensures.safe c.requires.rests.rest (serves g c n);
    }

pub returns-clause-watched : goal.returns-clause-watched
returns-clause-watched g c =
    let p = c.args.context.now in
    let m1 = c.take_waiting.new.self in
    let program = c.ring_program-program.result.now in
    let watched = rw c.setting-setting.ensures.same at c.run.ensures.over.watched in
    let begun = subst (λ (x : Core). g.W.Watch.sees c.args.watch.now (Began (Ring c.in_ok-ring.ring) x.state) c.begin.new.self) c.of.ensures c.begin.ensures in
    next_shows g.W.Watch.sees c.args.watch.now c.begin.new.self c.run.new.watch p program c.args.m.now m1 c.run.new.m c.in_ok-ring.ring
    c.ring_program-program.ensures.same (next g (goal.at.returns-clause-watched g c).After-setting-setting) begun watched
