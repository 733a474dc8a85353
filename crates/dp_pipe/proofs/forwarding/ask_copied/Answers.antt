-- `ask_copied`: an input at a record, at its end, or at a fault.
use Rattle.std.proofs.Common.{ap, refl, ◌∙◌, List, Ok, Result, map}
use Rattle.std.specs.Prelude.{⊤}
use Rattle.dp_engine.specs.declared.report.InputState.{InputState}
use Rattle.dp_engine.specs.Engines.{EngineState}
use Rattle.dp_pipe.specs.declared.forwarding.RunCause.{RunCause}
use Rattle.dp_pipe.specs.Devices.{Device, seen}
use Rattle.dp_pipe.specs.Forwarding.{Follows}
use Rattle.dp_pipe.specs.Watched.{ShowsInput}
use Rattle.dp_pipe.proofs.Following.{drained_ok, stopped_err}
use Rattle.dp_pipe.proofs.forwarding.ask_copied.Goals.{After-copied_turn}
use Rattle.dp_pipe.proofs.forwarding.ask_copied.Goals as goal

-- the input was asked, and this follows what it gave
asked : (g : _) (c : After-copied_turn g) (after : EngineState) (state : InputState) (holds : List Device) (answer : Result ⊤ RunCause)
    → Follows c.args.port c.args.unit c.copied_turn.new.engine after state (map (seen g.W.Sink.contents g.W.Sink.calls) c.args.outs.now) holds
    c.copied_turn.result answer
    → ShowsInput g.V.Watch.sees c.args.watch.now c.copied_turn.new.watch c.args.port c.args.unit c.args.engine.now after c.args.input.now
    (record { source = c.copied_turn.new.source; state = state }) (seen g.R.Feed.remaining g.R.Feed.calls c.args.r.now)
    (seen g.R.Feed.remaining g.R.Feed.calls c.copied_turn.new.r) (map (seen g.W.Sink.contents g.W.Sink.calls) c.args.outs.now) holds answer
asked g c after state holds answer follows = (
  record {
    next = c.copied_turn.result;
    engine = c.copied_turn.new.engine;
    read = c.copied_turn.ensures.turn.0;
    pulls = (c.copied_turn.ensures.counted, c.copied_turn.ensures.pulls);
    in_range = c.copied_turn.ensures.in_range;
    moves = c.copied_turn.ensures.source;
    follows = follows;
  },
  c.copied_turn.ensures.turn.1,
)

pub returns-in-Ok-clause-step : goal.returns-in-Ok-clause-step
returns-in-Ok-clause-step g c =
    asked g (goal.at.returns-in-Ok-clause-step g c).After-copied_turn _ _ _ _ (rw (c.in-Ok-Record.is ∙ ap Ok c.in-Ok-Record.field-0-is)
    (c.requires.is_open, drained_ok c.drain_all.result _ c.in-Ok.is c.drain_all.ensures.ok))

pub returns-in-Err-drain_all-clause-step : goal.returns-in-Err-drain_all-clause-step
returns-in-Err-drain_all-clause-step g c =
    asked g (goal.at.returns-in-Err-drain_all-clause-step g c).After-copied_turn _ _ _ _ (rw (c.in-Ok-Record.is ∙ ap Ok c.in-Ok-Record.field-0-is)
    (c.requires.is_open, c.in-Err-drain_all.failed, refl, stopped_err c.drain_all.result _ _ c.in-Err-drain_all.is c.drain_all.ensures.err))

pub returns-in-Ok-End-clause-step : goal.returns-in-Ok-End-clause-step
returns-in-Ok-End-clause-step g c =
    asked g (goal.at.returns-in-Ok-End-clause-step g c).After-copied_turn _ _ _ _ (rw (c.in-Ok-End.is ∙ ap Ok c.in-Ok-End.field-0-is)
    (refl, refl, refl, refl))

pub returns-in-Ok-Cut-clause-step : goal.returns-in-Ok-Cut-clause-step
returns-in-Ok-Cut-clause-step g c =
    asked g (goal.at.returns-in-Ok-Cut-clause-step g c).After-copied_turn _ _ _ _ (rw (c.in-Ok-Cut.is ∙ ap Ok c.in-Ok-Cut.field-0-is)
    (refl, refl, refl, refl))

pub returns-in-Err-clause-step : goal.returns-in-Err-clause-step
returns-in-Err-clause-step g c =
    asked g (goal.at.returns-in-Err-clause-step g c).After-copied_turn _ _ _ _ (rw c.in-Err.is (c.requires.is_open, refl, refl, refl))

pub returns-in-Ok-clause-fared_writers : goal.returns-in-Ok-clause-fared_writers
returns-in-Ok-clause-fared_writers g c sound = rw c.in-Ok.is at (c.drain_all.ensures.fared sound)

pub returns-in-Err-drain_all-clause-fared_writers : goal.returns-in-Err-drain_all-clause-fared_writers
returns-in-Err-drain_all-clause-fared_writers g c sound = rw c.in-Err-drain_all.is at (c.drain_all.ensures.fared sound)
