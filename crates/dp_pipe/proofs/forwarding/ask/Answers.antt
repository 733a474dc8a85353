-- `ask`: a buffered record and the drains after it; what comes next otherwise is `ask_copied`'s.
use Rattle.std.proofs.Common.{rules, ◌≡◌, List, Result, length, map, refl, ap, ◌∙◌, sym, arith}
use Rattle.std.specs.Prelude.{Ok, ⊤}
use Rattle.dp_pcap.specs.declared.source.Next.TheVariants.{Record}
use Rattle.dp_engine.specs.Engines.{EngineState}
use Rattle.dp_pipe.specs.declared.forwarding.RunCause.{RunCause}
use Rattle.dp_pipe.specs.Devices.{Device, seen}
use Rattle.dp_pipe.specs.Forwarding.{Follows}
use Rattle.dp_pipe.specs.Watched.{ShowsInput, ShowsNext}
use Rattle.dp_pipe.proofs.Following.{drained_ok, stopped_err}
use Rattle.dp_pipe.proofs.forwarding.ask.Goals.{After-held_turn}
use Rattle.dp_pipe.proofs.forwarding.ask.Goals as goal

-- the turn with the record
went : (g : _) (c : After-held_turn g) → ShowsNext g.V.Watch.sees c.args.watch.now c.held_turn.new.watch c.args.port c.args.engine.now
    c.held_turn.new.engine c.args.input.now.source c.held_turn.new.source (g.R.Feed.remaining c.args.r.now) (g.R.Feed.remaining c.held_turn.new.r)
    (Ok (Record c.in-Some.record.time c.in-Some.record.len))
went g c = c.held_turn.ensures.turn c.in-Some.record.time c.in-Some.ensures.some

pub drain_all-requires : goal.drain_all-requires
drain_all-requires g c =
    let ((bytes, more, (fits, turn)), shown) = went g (goal.at.drain_all-requires g c).After-held_turn in
    let ports = ap (λ (x : EngineState). length x.setting.env.ports) turn.is in
    let counts : length c.held_turn.new.engine.tallies ≡ 8 = search rules in
    (omega arith, (c.requires.can.places.many ∙ sym ports, (c.requires.can.places.few, (counts, c.in-Some.ensures.in_range.0))))

-- the input was asked, and this follows its record
asked : (g : _) (c : After-held_turn g) (after : EngineState) (holds : List Device) (answer : Result ⊤ RunCause)
    → Follows c.args.port c.args.unit c.held_turn.new.engine after c.args.input.now.state (map (seen g.W.Sink.contents g.W.Sink.calls) c.args.outs.now)
    holds (Ok (Record c.in-Some.record.time c.in-Some.record.len)) answer
    → ShowsInput g.V.Watch.sees c.args.watch.now c.held_turn.new.watch c.args.port c.args.unit c.args.engine.now after c.args.input.now
    (record { source = c.held_turn.new.source; state = c.args.input.now.state }) (seen g.R.Feed.remaining g.R.Feed.calls c.args.r.now)
    (seen g.R.Feed.remaining g.R.Feed.calls c.held_turn.new.r) (map (seen g.W.Sink.contents g.W.Sink.calls) c.args.outs.now) holds answer
asked g c after holds answer follows = (
  record {
    next = Ok (Record c.in-Some.record.time c.in-Some.record.len);
    engine = c.held_turn.new.engine;
    read = (went g c).0;
    pulls = (omega (arith, c.held_turn.ensures.calls), tt);
    in_range = (c.in-Some.ensures.in_range.0, c.in-Some.ensures.in_range.1, c.in-Some.ensures.some.given);
    moves = c.held_turn.ensures.source;
    follows = follows;
  },
  (went g c).1,
)

pub returns-in-Ok-clause-step : goal.returns-in-Ok-clause-step
returns-in-Ok-clause-step g c is_open =
    asked g (goal.at.returns-in-Ok-clause-step g c).After-held_turn _ _ _
    (is_open, drained_ok c.drain_all.result _ c.in-Ok.is c.drain_all.ensures.ok)

pub returns-in-Err-clause-step : goal.returns-in-Err-clause-step
returns-in-Err-clause-step g c is_open =
    asked g (goal.at.returns-in-Err-clause-step g c).After-held_turn _ _ _
    (is_open, c.in-Err.failed, refl, stopped_err c.drain_all.result _ _ c.in-Err.is c.drain_all.ensures.err)

pub returns-in-Ok-clause-fared_writers : goal.returns-in-Ok-clause-fared_writers
returns-in-Ok-clause-fared_writers g c sound = rw c.in-Ok.is at (c.drain_all.ensures.fared sound)

pub returns-in-Err-clause-fared_writers : goal.returns-in-Err-clause-fared_writers
returns-in-Err-clause-fared_writers g c sound = rw c.in-Err.is at (c.drain_all.ensures.fared sound)
