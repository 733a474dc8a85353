-- `trace_port`: the input is not asked, or gives a record that is traced, or ends.
use Rattle.std.proofs.Common.{ℕ, refl, ap, ◌∙◌, arith, inl, inr}
use Rattle.std.specs.Prelude.{Ok}
use Rattle.dp_engine.specs.declared.report.InputState.{InputState}
use Rattle.dp_engine.specs.Engines.{EngineState}
use Rattle.dp_pipe.specs.Devices.{seen}
use Rattle.dp_pipe.specs.Tracing.{FollowsTraced, TracesInput}
use Rattle.dp_pipe.proofs.Lending.{not_both}
use Rattle.dp_pipe.proofs.tracing.trace_port.Goals as goal
use Rattle.dp_pipe.proofs.tracing.trace_port.Goals.{After-trace_next}

pub returns-then-not-is_open-clause-step : goal.returns-then-not-is_open-clause-step
returns-then-not-is_open-clause-step g c = inl (inr (inl (λ e. not_both _ refl (c.if-not-is_open.ensures.1 e))), refl, refl, refl, refl, refl, refl)

pub returns-then-not-is_of-clause-step : goal.returns-then-not-is_of-clause-step
returns-then-not-is_of-clause-step g c = inl (inr (inr (λ e. not_both _ refl (c.if-not-is_of.ensures.1 e))), refl, refl, refl, refl, refl, refl)

-- the input was asked, and this follows what it gave
asked : (g : _) (c : After-trace_next g) (after : EngineState) (state : InputState) (left : ℕ)
    → FollowsTraced c.trace_next.new.engine after state c.args.which.now.records left c.trace_next.result (Ok tt)
    → TracesInput g.T.Watch.sees g.T.Tracer.noted c.args.tracer.now c.trace_next.new.tracer c.args.which.now.port c.args.port c.args.engine.now after
    c.args.input.now (record { source = c.trace_next.new.source; state = state }) (seen g.R.Feed.remaining g.R.Feed.calls c.args.r.now)
    (seen g.R.Feed.remaining g.R.Feed.calls c.trace_next.new.r) c.args.which.now.records left (Ok tt)
asked g c after state left follows = record {
  some = omega (arith, c.if-which-eq0.false);
  is_open = c.if-not-is_open.ensures.0 refl;
  is_traced = c.if-not-is_of.ensures.0 refl;
  next = c.trace_next.result;
  engine = c.trace_next.new.engine;
  read = c.trace_next.ensures.turn;
  pulls = (c.trace_next.ensures.counted, c.trace_next.ensures.pulls);
  in_range = c.trace_next.ensures.in_range;
  moves = c.trace_next.ensures.source;
  follows = follows;
}

pub returns-in-Ok-Record-clause-step : goal.returns-in-Ok-Record-clause-step
returns-in-Ok-Record-clause-step g c =
    inr (asked g (goal.at.returns-in-Ok-Record-clause-step g c).After-trace_next _ _ _ (rw (c.in-Ok-Record.is ∙ ap Ok c.in-Ok-Record.field-0-is)
    (c.if-not-is_open.ensures.0 refl, refl, c.flush_lists.ensures, omega (arith, c.if-which-eq0.false))))

pub returns-in-Ok-End-clause-step : goal.returns-in-Ok-End-clause-step
returns-in-Ok-End-clause-step g c =
    inr (asked g (goal.at.returns-in-Ok-End-clause-step g c).After-trace_next _ _ _ (rw (c.in-Ok-End.is ∙ ap Ok c.in-Ok-End.field-0-is)
    (refl, refl, refl, refl)))

pub returns-in-Ok-Cut-clause-step : goal.returns-in-Ok-Cut-clause-step
returns-in-Ok-Cut-clause-step g c =
    inr (asked g (goal.at.returns-in-Ok-Cut-clause-step g c).After-trace_next _ _ _ (rw (c.in-Ok-Cut.is ∙ ap Ok c.in-Ok-Cut.field-0-is)
    (refl, refl, refl, refl)))
