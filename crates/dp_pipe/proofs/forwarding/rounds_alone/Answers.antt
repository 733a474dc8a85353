-- `rounds_alone`: one more record of the only open input, its end, and a stop.
use Rattle.std.proofs.Common.{rules, ◌≡◌, ◌+◌, ◌≤◌, ℕ, false, List, Ok, Err, length, map, refl, sym, ap, ◌∙◌, arith}
use Rattle.std.specs.Prelude.{slice_set}
use Rattle.std.proofs.lemmas.List.{length-map, length-set, set-set}
use Rattle.std.proofs.lemmas.Option.{slice_get_within}
use Rattle.dp_model.specs.Laws.Lists.{get_set_same, set_itself}
use Rattle.dp_pcap.specs.declared.format.TheConstants.{MAX_RECORD}
use Rattle.dp_engine.specs.declared.report.InputState.TheVariants.{Open}
use Rattle.dp_engine.specs.Engines.{EngineState}
use Rattle.dp_pipe.specs.declared.forwarding.InputProgress.{InputProgress}
use Rattle.dp_pipe.specs.Devices.{Device, seen, transfer}
use Rattle.dp_pipe.specs.Forwarding.{Input, RunUntil, IsAlone}
use Rattle.dp_pipe.specs.Watched.{ShowsUntil}
use Rattle.dp_pipe.proofs.Rounding.{Comes, can_ask, asked_on, asked_stops}
use Rattle.dp_pipe.proofs.Faring.{all_same, fared_same, fared_then, writers_then}
use Rattle.dp_pipe.proofs.Lending.{not_both}
use Rattle.dp_pipe.proofs.Watched.{shown_all, shown_comes, shown_ends, shown_on, shown_stops}
use Rattle.dp_pipe.proofs.Rounding.{comes_alone, ends_alone, still_alone, none_alone, went_all, fewer_left}
use Rattle.dp_pipe.proofs.forwarding.rounds_alone.Goals as goal
use Rattle.dp_pipe.proofs.forwarding.rounds_alone.Goals.{After-is_open, In-loop-unit}

-- the round has come to the input
opened : (g : _) (c : In-loop-unit g) (inputs : List InputProgress) (ins : List _) (e0 : EngineState) (olds held : List Device) (read : List Input) (k : ℕ)
    → IsAlone c.args.port c.args.input.now c.args.r.now inputs ins
    → RunUntil c.args.unit e0 c.args.engine.now (transfer olds (map (seen g.R.Feed.remaining g.R.Feed.calls) ins) held (map
    (seen g.W.Sink.contents g.W.Sink.calls) c.args.outs.now)) inputs read k 0
    → (round : ℕ) × Comes (seen g.R.Feed.remaining g.R.Feed.calls) (seen g.W.Sink.contents g.W.Sink.calls) c.args.unit e0 c.loop-unit.engine olds held
    (slice_set ins c.args.port c.loop-unit.r) c.loop-unit.outs (slice_set inputs c.args.port c.loop-unit.input) round c.args.port c.loop-unit.input
    c.loop-unit.r
opened g c inputs ins e0 olds held read k alone start =
    let (now, round, along) = c.loop-unit.invariant.goes inputs ins e0 olds held read k alone start in
    let there = slice_get_within inputs c.args.port c.args.input.now alone.input in
    let long = length-set inputs c.args.port c.loop-unit.input in
    let ports = ap (λ (x : EngineState). length x.setting.env.ports) start.run.stays in (
      round,
      record {
        inputs = now;
        along = comes_alone c.args.port (omega (arith, there, long)) (still_alone inputs c.args.port c.loop-unit.input alone.alone) along;
        input = get_set_same inputs c.args.port c.loop-unit.input c.args.input.now alone.input;
        reader = get_set_same ins c.args.port c.loop-unit.r c.args.r.now alone.reader;
        there = omega (arith, there, start.progress_is.many, start.inputs_many);
        few = omega (arith, ports, c.requires.places.many, c.requires.places.few);
        many = c.loop-unit.invariant.outs ∙ c.requires.places.many ∙ ports;
        counted = sym start.run.each ∙ c.requires.places.counted;
      },
    )

pub ask-requires : goal.ask-requires
ask-requires g c =
    let (inputs, ins, k, alone, start) = c.requires.underway in
    let (round, here) = opened g (goal.at.ask-requires g c).In-loop-unit inputs ins start.before start.had start.held start.inputs k alone start.run in
    let inv = c.loop-unit.invariant in
    let few : length c.loop-unit.outs ≤ 8 = omega (arith, inv.outs, c.requires.places.few) in
    let buf : MAX_RECORD ≤ length c.loop-unit.buf = rw inv.buf c.requires.places.buf in
    (omega arith, can_ask here few buf)

-- the result where the run stops
gone : (g : _) (c : goal.After-from_residual g) → c.from_residual.result ≡ Err c.in_err-ask.field-0.0
gone g c = search rules

pub loop-unit-init : goal.loop-unit-init
loop-unit-init g c = record {
  outs = refl;
  buf = refl;
  goes = λ inputs ins e0 olds held read k alone start.
      rw (set_itself ins c.args.port c.args.r.now alone.reader, set_itself inputs c.args.port c.args.input.now alone.input) (read, k, start);
  reader = record { own = fared_same g.R.Feed.is_broken g.R.Feed.failures c.args.r.now; others = λ q other. refl };
  writers = λ sound. all_same g.W.Sink.is_broken g.W.Sink.failures (λ q. false) c.args.outs.now (λ q. refl);
  shown = λ inputs ins v0 e0 olds k alone until.
      rw (set_itself ins c.args.port c.args.r.now alone.reader, set_itself inputs c.args.port c.args.input.now alone.input) (k, until);
}

-- the turns of one more record, or the stop
until_here : (g : _) (c : In-loop-unit g) (inputs : List InputProgress) (ins : List _) (v0 : _) (e0 : EngineState) (olds : List Device) (k : ℕ)
    → IsAlone c.args.port c.args.input.now c.args.r.now inputs ins
    → ShowsUntil g.V.Watch.sees v0 c.args.watch.now e0 c.args.engine.now olds (map (seen g.R.Feed.remaining g.R.Feed.calls) ins) inputs k 0
    → (round : ℕ) × ShowsUntil g.V.Watch.sees v0 c.loop-unit.watch e0 c.loop-unit.engine olds (map (seen g.R.Feed.remaining g.R.Feed.calls)
    (slice_set ins c.args.port c.loop-unit.r)) (slice_set inputs c.args.port c.loop-unit.input) round c.args.port
until_here g c inputs ins v0 e0 olds k alone until =
    let there = slice_get_within inputs c.args.port c.args.input.now alone.input in
    let long = length-set inputs c.args.port c.loop-unit.input in
    let readers = length-map (slice_set ins c.args.port c.loop-unit.r) (seen g.R.Feed.remaining g.R.Feed.calls)
    ∙ length-set ins c.args.port c.loop-unit.r ∙ alone.many ∙ sym long in
    let (round, along) = c.loop-unit.invariant.shown inputs ins v0 e0 olds k alone until in
    (round, shown_comes c.args.port (omega (arith, there, long)) readers (still_alone inputs c.args.port c.loop-unit.input alone.alone) along)

pub loop-unit-preserved : goal.loop-unit-preserved
loop-unit-preserved g c =
    let inv = c.loop-unit.invariant in
    let port = c.args.port in
    record {
      outs = c.ask.ensures.many ∙ inv.outs;
      buf = c.ask.ensures.buf ∙ inv.buf;
      goes = λ inputs ins e0 olds held read k alone start.
          let (round, here) = opened g (goal.at.loop-unit-preserved g c).In-loop-unit inputs ins e0 olds held read k alone start in
          let (now, on) = asked_on here (λ open_p. (c.ask.ensures.step open_p).0)
          (λ closed. let (ok, e, p, r, outs, v) = c.ask.ensures.over closed in (ok, e, p, r, outs)) c.in_ok-ask.was in
          let twice = set-set inputs port c.loop-unit.input c.ask.new.input in
          let there = slice_get_within inputs port c.args.input.now alone.input in
          let long = length-set inputs port c.ask.new.input in (
            now,
            round + 1,
            ends_alone port (omega (arith, there, long)) (still_alone inputs port c.ask.new.input alone.alone)
                (rw (set-set ins port c.loop-unit.r c.ask.new.r, twice) at on),
          );
      reader = record {
        own = fared_then g.R.Feed.is_broken g.R.Feed.failures false c.args.r.now c.loop-unit.r c.ask.new.r inv.reader.own
            (rw c.in_ok-ask.was at c.ask.ensures.fared_reader.own);
        others = λ q other. refl;
      };
      writers = writers_then g.W.Sink.is_broken g.W.Sink.failures c.ask.result (Ok tt) c.args.outs.now c.loop-unit.outs c.ask.new.outs inv.outs inv.writers
          c.ask.ensures.fared_writers c.in_ok-ask.was;
      shown = λ inputs ins v0 e0 olds k alone until.
          let (round, come) = until_here g (goal.at.loop-unit-preserved g c).In-loop-unit inputs ins v0 e0 olds k alone until in
          let on = shown_on (seen g.R.Feed.remaining g.R.Feed.calls) (slice_set ins port c.loop-unit.r) c.ask.ensures.step
          (get_set_same inputs port c.loop-unit.input c.args.input.now alone.input) (get_set_same ins port c.loop-unit.r c.args.r.now alone.reader)
          come
          (λ closed. let (ok, e, p, r, outs, v) = c.ask.ensures.over closed in (ok, e, p, r, v)) c.in_ok-ask.was in
          let there = slice_get_within inputs port c.args.input.now alone.input in
          let long = length-set inputs port c.ask.new.input in
          let readers = length-map (slice_set ins port c.ask.new.r) (seen g.R.Feed.remaining g.R.Feed.calls)
          ∙ length-set ins port c.ask.new.r ∙ alone.many ∙ sym long in (
            round + 1,
            shown_ends port (omega (arith, there, long)) readers (still_alone inputs port c.ask.new.input alone.alone)
                (rw (set-set ins port c.loop-unit.r c.ask.new.r, set-set inputs port c.loop-unit.input c.ask.new.input) at on),
          );
    }

pub returns-in_err-ask : goal.returns-in_err-ask
returns-in_err-ask g c =
    let inv = c.loop-unit.invariant in
    let port = c.args.port in
    let loop = (goal.at.returns-in_err-ask g c).In-loop-unit in
    let is = c.in_err-ask.was ∙ sym (gone g c) in
    let failed = rw is at c.ask.ensures.fared_reader in
    record {
      goes = λ inputs ins e0 olds held read k alone start.
          let (round, here) = opened g loop inputs ins e0 olds held read k alone start in
          rw (gone g c) (rw (set-set ins port c.loop-unit.r c.ask.new.r, set-set inputs port c.loop-unit.input c.ask.new.input) at (asked_stops here
          (λ open_p. (c.ask.ensures.step open_p).0) (λ closed. let (ok, e, p, r, outs, v) = c.ask.ensures.over closed in (ok, e, p, r, outs)) _
          c.in_err-ask.was));
      fared_reader = record {
        own = fared_then g.R.Feed.is_broken g.R.Feed.failures _ c.args.r.now c.loop-unit.r c.ask.new.r inv.reader.own failed.own;
        others = failed.others;
      };
      fared_writers = writers_then g.W.Sink.is_broken g.W.Sink.failures c.ask.result c.from_residual.result c.args.outs.now c.loop-unit.outs
          c.ask.new.outs inv.outs inv.writers c.ask.ensures.fared_writers is;
      shown = λ inputs ins v0 e0 olds k alone until.
          let (round, come) = until_here g loop inputs ins v0 e0 olds k alone until in
          rw (gone g c) (rw (set-set ins port c.loop-unit.r c.ask.new.r) at (shown_stops (seen g.R.Feed.remaining g.R.Feed.calls)
          (slice_set ins port c.loop-unit.r) c.ask.ensures.step (get_set_same inputs port c.loop-unit.input c.args.input.now alone.input)
          (get_set_same ins port c.loop-unit.r c.args.r.now alone.reader) come (λ closed. (c.ask.ensures.over closed).0) _ c.in_err-ask.was));
    }

-- the input has ended
closed : (g : _) (c : After-is_open g) → c.is_open.result ≡ false → c.loop-unit.input.state ≡ Open → ⊥
closed g c ended e = not_both _ ended (c.is_open.ensures.1 e)

pub loop-unit-smaller : goal.loop-unit-smaller
loop-unit-smaller g c =
    let open_p = c.is_open.ensures.0 c.loop-unit-test.true in
    fewer_left open_p (rw c.in_ok-ask.was at (c.ask.ensures.step open_p).0)

pub returns-clause-goes : goal.returns-clause-goes
returns-clause-goes g c inputs ins e0 olds held read k alone start =
    let (now, round, going) = c.loop-unit.invariant.goes inputs ins e0 olds held read k alone start in
    went_all going (none_alone inputs c.args.port c.args.input.now c.loop-unit.input alone.input alone.alone
    (closed g (goal.at.returns-clause-goes g c).After-is_open c.loop-unit-test.false))

pub returns-clause-shown : goal.returns-clause-shown
returns-clause-shown g c inputs ins v0 e0 olds k alone until =
    let (round, along) = c.loop-unit.invariant.shown inputs ins v0 e0 olds k alone until in
    shown_all along (none_alone inputs c.args.port c.args.input.now c.loop-unit.input alone.input alone.alone
    (closed g (goal.at.returns-clause-shown g c).After-is_open c.loop-unit-test.false))
