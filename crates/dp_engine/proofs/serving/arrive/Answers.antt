-- A record at a port: what is known about the port, about what is received and about the node run is derived once, and each goal is one step from there.
use Rattle.std.proofs.Common.{rules, ◌≡◌, ◌≤◌, ℕ, Bool, false, List, [], ◌∷◌, length, refl, sym, ◌∙◌, ap, subst, arith}
use Rattle.std.specs.Prelude.{slice_index_or}
use Rattle.dp_model.specs.declared.env.PortSpec.{PortSpec}
use Rattle.dp_model.specs.Environments.{Environment}
use Rattle.dp_model.specs.Packets.{needed as segments_needed}
use Rattle.dp_model.specs.Machine.{Setting, World, is_denied}
use Rattle.dp_model.specs.Runs.{Got, Receives, between}
use Rattle.dp_engine.specs.Handles.{Core}
use Rattle.dp_engine.specs.Steps.{FitsIn}
use Rattle.dp_engine.proofs.Served.{AtPort, Received, at_port, received_is}
use Rattle.dp_model.specs.declared.env.Entry.TheVariants.{Port}
use Rattle.dp_engine.specs.Watching.{Began}
use Rattle.dp_engine.proofs.Shown.{received_shows}
use Rattle.dp_engine.proofs.Turning.{port_small}
use Rattle.dp_engine.proofs.serving.arrive.Goals as goal
use Rattle.dp_engine.proofs.serving.arrive.Goals.{After-from, After-receive, After-port_program-program, After-run}

-- the port of a number
abbrev spec_of : List PortSpec → ℕ → PortSpec
spec_of ports port = slice_index_or ports port (record { pool = 0; segs = 0; queue = 0 })

-- an answer of one setting to a record is that of an equal one
denied_as : {a b : Setting} {is : Bool} (w : World) (pool len : ℕ) → a ≡ b
    → is ≡ is_denied a (between w) pool (segments_needed a.env.pools pool len) → is_denied b (between w) pool (segments_needed b.env.pools pool len) ≡ is
denied_as {is = is} w pool len same was =
    sym (subst (λ (s : Setting). is ≡ is_denied s (between w) pool (segments_needed s.env.pools pool len)) same was)

-- the port
there : (g : _) (c : After-from g) → AtPort c.args.context.now.setting c.args.context.now.nodes c.args.port (spec_of c.ports.result.now c.from.result)
there g c =
    let p = c.args.context.now in
    rw c.from.ensures (at_port p.setting p.nodes c.ports.result.now c.args.port (record { pool = 0; segs = 0; queue = 0 }) c.setting-setting.ensures.pipeline
    (c.ports.ensures ∙ ap (λ (x : Environment). x.ports) c.env.ensures ∙ ap (λ (x : Setting). x.env.ports) c.setting-setting.ensures.same) c.requires.exists)

-- the record has room in its segments
fits : (g : _) (c : After-receive g) → segments_needed c.args.context.now.setting.env.pools (spec_of c.ports.result.now c.from.result).pool
    (length c.args.bytes.now) ≤ (spec_of c.ports.result.now c.from.result).segs
fits g c =
    omega (arith, rw c.requires.rests.pools at c.needed.ensures, c.if-is_oversize.ensures.fits refl)

-- what is received, and that the port's program can run on it
came : (g : _) (c : After-port_program-program g)
    → AtPort c.args.context.now.setting c.args.context.now.nodes c.args.port (spec_of c.ports.result.now c.from.result)
    → segments_needed c.args.context.now.setting.env.pools (spec_of c.ports.result.now c.from.result).pool (length c.args.bytes.now)
    ≤ (spec_of c.ports.result.now c.from.result).segs
    → Received c.args.context.now.setting c.port_program-program.result.now c.args.port (spec_of c.ports.result.now c.from.result) c.args.bytes.now
    c.args.m.now.state.world c.receive.new.self.state
came g c at fits =
    let p = c.args.context.now in
    let spec = spec_of c.ports.result.now c.from.result in
    let bytes = c.args.bytes.now in
    let w = c.args.m.now.state.world in
    let s = c.receive.new.self.state in
    let got = rw c.setting-setting.ensures.same at (c.if-not-receive.ensures.received refl) in
    let denied = denied_as w spec.pool (length bytes) c.setting-setting.ensures.same c.if-not-receive.ensures.denied in
    received_is p.setting p.nodes c.port_program-program.result.now c.args.port spec bytes w s c.setting-setting.ensures.safe
    c.setting-setting.ensures.pipeline.limits at.spec_is c.port_program-program.ensures.same c.requires.rests.rest fits denied got

-- what its run made
went : (g : _) (c : After-run g) → Received c.args.context.now.setting c.port_program-program.result.now c.args.port (spec_of c.ports.result.now c.from.result)
    c.args.bytes.now c.args.m.now.state.world c.receive.new.self.state
    → (answers : List Bool) × Receives c.args.context.now.setting c.port_program-program.result.now c.args.port (spec_of c.ports.result.now c.from.result)
    c.args.bytes.now c.args.m.now.state.world answers c.run.new.m.state.world
went g c r = r.receives c.run.new.m.state (rw c.setting-setting.ensures.same at c.run.ensures.over.runs)

pub returns-then-is_oversize-clause-arrives : goal.returns-then-is_oversize-clause-arrives
returns-then-is_oversize-clause-arrives g c =
    let at = there g (goal.at.returns-then-is_oversize-clause-arrives g c).After-from in
    let need : c.needed.result ≡ segments_needed c.args.context.now.setting.env.pools (spec_of c.ports.result.now c.from.result).pool (length c.args.bytes.now)
    = rw c.requires.rests.pools at c.needed.ensures in (
      [],
      (
        spec_of c.ports.result.now c.from.result,
        at.program,
        at.spec_is,
        at.program_is,
        (omega (arith, need, c.if-is_oversize.ensures.over refl), refl, refl),
      ),
    )

pub needed-requires : goal.needed-requires
needed-requires g c =
    let at = there g (goal.at.needed-requires g c).After-from in
    rw c.requires.rests.pools at.room

pub is_oversize-requires : goal.is_oversize-requires
is_oversize-requires g c = (there g (goal.at.is_oversize-requires g c).After-from).some_segs

pub receive-requires-clause-has_room : goal.receive-requires-clause-has_room
receive-requires-clause-has_room g c =
    rw (ap (λ (x : Setting). x.env) c.setting-setting.ensures.same) (there g (goal.at.receive-requires-clause-has_room g c).After-from).room

pub receive-requires-clause-fits : goal.receive-requires-clause-fits
receive-requires-clause-fits g c =
    let pools = c.requires.rests.pools ∙ sym (ap (λ (x : Setting). x.env.pools) c.setting-setting.ensures.same) in
    let need : c.needed.result ≡ segments_needed c.setting-setting.result.now.env.pools (spec_of c.ports.result.now c.from.result).pool
    (length c.args.bytes.now) =
    rw pools at c.needed.ensures in
    omega (arith, need, c.if-is_oversize.ensures.fits refl, (there g (goal.at.receive-requires-clause-fits g c).After-from).segs)

pub returns-then-not-receive-clause-arrives : goal.returns-then-not-receive-clause-arrives
returns-then-not-receive-clause-arrives g c =
    let here = goal.at.returns-then-not-receive-clause-arrives g c in
    let at = there g here.After-from in
    let denied = denied_as c.args.m.now.state.world (spec_of c.ports.result.now c.from.result).pool (length c.args.bytes.now) c.setting-setting.ensures.same
    c.if-not-receive.ensures.denied in
    let world = ap (λ (x : Core). x.state.world) (c.if-not-receive.ensures.refused refl) in (
      false ∷ [],
      (spec_of c.ports.result.now c.from.result, at.program, at.spec_is, at.program_is, (fits g here.After-receive, denied, refl, world)),
    )

pub begin-requires : goal.begin-requires
begin-requires g c = port_small c.args.context.now c.args.port c.setting-setting.ensures.pipeline c.requires.exists

pub run-requires : goal.run-requires
run-requires g c =
    let here = goal.at.run-requires g c in
    let received = came g here.After-port_program-program (there g here.After-from) (fits g here.After-receive) in
    let sound = received.can_run in
    let is = c.port_program-program.ensures.program in
    let same = c.setting-setting.ensures.same in
    record { begins = record { can = rw same sound; is = is; few = search rules; few_cuts = search rules; pools = search rules; fits = search rules } }

pub returns-clause-arrives : goal.returns-clause-arrives
returns-clause-arrives g c =
    let here = goal.at.returns-clause-arrives g c in
    let at = there g here.After-from in
    let (answers, receives) = went g c (came g here.After-port_program-program at (fits g here.After-receive)) in (
      answers,
      (
        spec_of c.ports.result.now c.from.result,
        c.port_program-program.result.now,
        at.spec_is,
        c.port_program-program.ensures.same,
        receives,
      ),
    )

pub returns-clause-rests : goal.returns-clause-rests
returns-clause-rests g c =
    let here = goal.at.returns-clause-rests g c in
    let at = there g here.After-from in
    let (answers, receives) = went g c (came g here.After-port_program-program at (fits g here.After-receive)) in
    record {
      idle = c.run.ensures.over.idle;
      pools = c.run.ensures.over.pools ∙ (c.receive.ensures.pools ∙ c.requires.rests.pools);
      fits = subst (FitsIn c.args.context.now.setting.env) (sym (c.run.ensures.over.frames ∙ c.receive.ensures.frames)) c.requires.rests.fits;
      rest = c.setting-setting.ensures.safe.arrives c.port_program-program.result.now c.args.port (spec_of c.ports.result.now c.from.result) c.args.bytes.now
          c.args.m.now.state.world c.run.new.m.state.world Got answers c.port_program-program.ensures.same at.spec_is c.requires.rests.rest receives;
    }

pub returns-then-is_oversize-clause-watched : goal.returns-then-is_oversize-clause-watched
returns-then-is_oversize-clause-watched g c =
    let (answers, (spec, program, spec_is, program_is, arrives)) = returns-then-is_oversize-clause-arrives g c in
    record { answers = answers; events = []; shows = (spec, program, spec_is, program_is, arrives, refl); seen = refl }

pub returns-then-not-receive-clause-watched : goal.returns-then-not-receive-clause-watched
returns-then-not-receive-clause-watched g c =
    let (answers, (spec, program, spec_is, program_is, arrives)) = returns-then-not-receive-clause-arrives g c in
    record { answers = answers; events = []; shows = (spec, program, spec_is, program_is, arrives, refl); seen = refl }

pub returns-clause-watched : goal.returns-clause-watched
returns-clause-watched g c =
    let here = goal.at.returns-clause-watched g c in
    let p = c.args.context.now in
    let spec = spec_of c.ports.result.now c.from.result in
    let program = c.port_program-program.result.now in
    let s1 = c.receive.new.self.state in
    let at = there g here.After-from in
    let denied = denied_as c.args.m.now.state.world (spec_of c.ports.result.now c.from.result).pool (length c.args.bytes.now) c.setting-setting.ensures.same
    c.if-not-receive.ensures.denied in
    let got = rw c.setting-setting.ensures.same at (c.if-not-receive.ensures.received refl) in
    let watched = rw c.setting-setting.ensures.same at c.run.ensures.over.watched in
    let begun = subst (λ (x : Core). g.W.Watch.sees c.args.watch.now (Began (Port c.args.port) x.state) c.begin.new.self) c.of.ensures c.begin.ensures in
    received_shows g.W.Watch.sees c.args.watch.now c.begin.new.self c.run.new.watch p program c.args.port spec c.args.bytes.now c.args.m.now.state.world s1
    c.run.new.m.state at.spec_is c.port_program-program.ensures.same (fits g here.After-receive) denied got begun watched
