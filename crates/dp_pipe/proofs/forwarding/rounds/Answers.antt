-- `rounds`: one more round, the end of all inputs, and a stop. The run and each call of `round` are derived once.
use Rattle.std.proofs.Common.{rules, ◌≡◌, List, Result, Ok, Err, length, map, refl, sym, ap, ◌∙◌, arith}
use Rattle.std.specs.Prelude.{slice_index_or, ⊤}
use Rattle.std.proofs.lemmas.List.{length-set}
use Rattle.std.proofs.lemmas.Option.{slice_get-get_or}
use Rattle.dp_engine.specs.Engines.{EngineState}
use Rattle.dp_pipe.specs.declared.forwarding.RunCause.{RunCause}
use Rattle.dp_pipe.specs.Devices.{Device, seen, transfer, AllFared, AllSound, failed_reader, failed_writer}
use Rattle.dp_pipe.specs.Forwarding.{Input, RunUntil, HasPlaces, IsAlone, IsRound, IsUnderway}
use Rattle.dp_pipe.specs.Watched.{ShowsRound, ShowsUntil}
use Rattle.dp_pipe.proofs.Watched.{shown_all}
use Rattle.dp_pipe.proofs.Faring.{reader_then, readers_then, writers_then}
use Rattle.dp_pipe.proofs.Rounding.{went_all, none_left}
use Rattle.dp_pipe.proofs.forwarding.rounds.Goals as goal
use Rattle.dp_pipe.proofs.forwarding.rounds.Goals.{In-loop-k, After-index-ins-k, After-round}

-- the run continues, in the round that comes next
along : (g : _) (c : In-loop-k g) → (now : List Input) × RunUntil c.args.unit c.requires.underway.before c.loop-k.engine
    (transfer c.requires.underway.had (map (seen g.R.Feed.remaining g.R.Feed.calls) c.loop-k.ins)
    c.requires.underway.held (map (seen g.W.Sink.contents g.W.Sink.calls) c.loop-k.outs)) c.loop-k.inputs now c.loop-k.k 0
along g c = let start = c.requires.underway in c.loop-k.invariant.goes start.before start.had start.held start.inputs start.run

-- as many ports as at first
ports : (g : _) (c : In-loop-k g) → length c.args.engine.now.setting.env.ports ≡ length c.loop-k.engine.setting.env.ports
ports g c =
    ap (λ (x : EngineState). length x.setting.env.ports) c.requires.underway.run.run.stays
    ∙ sym (ap (λ (x : EngineState). length x.setting.env.ports) (along g c).1.run.stays)

-- the round that was made
went : (g : _) (c : After-round g) (e0 : EngineState) (olds held : List Device) (read : List Input)
    → RunUntil c.args.unit e0 c.args.engine.now (transfer olds (map (seen g.R.Feed.remaining g.R.Feed.calls) c.args.ins.now) held (map
    (seen g.W.Sink.contents g.W.Sink.calls) c.args.outs.now)) c.args.inputs.now read 0
    0 → IsRound c.args.unit e0 c.loop-k.engine c.round.new.engine (transfer olds (map (seen g.R.Feed.remaining g.R.Feed.calls) c.round.new.ins) held (map
    (seen g.W.Sink.contents g.W.Sink.calls) c.round.new.outs)) c.round.new.inputs c.loop-k.k c.round.result
went g c e0 olds held read start =
    let (now, along) = c.loop-k.invariant.goes e0 olds held read start in c.round.ensures.goes e0 olds held now c.loop-k.k along

-- how the devices are after each result
fared : (g : _) (c : After-round g) (given : Result ⊤ RunCause) → c.round.result ≡ given
    → AllFared g.R.Feed.is_broken g.R.Feed.failures (failed_reader given) c.args.ins.now c.round.new.ins
    × (AllSound g.W.Sink.is_broken c.args.outs.now
    → AllFared g.W.Sink.is_broken g.W.Sink.failures (failed_writer given) c.args.outs.now c.round.new.outs)
fared g c given is =
    let inv = c.loop-k.invariant in (
      readers_then g.R.Feed.is_broken g.R.Feed.failures c.round.result given c.args.ins.now c.loop-k.ins c.round.new.ins inv.ins inv.readers
          c.round.ensures.fared_readers is,
      writers_then g.W.Sink.is_broken g.W.Sink.failures c.round.result given c.args.outs.now c.loop-k.outs c.round.new.outs inv.outs inv.writers
          c.round.ensures.fared_writers is,
    )

-- the turns of the round that was made
shown : (g : _) (c : After-round g) (v0 : _) (e0 : EngineState) (olds : List Device)
    → ShowsUntil g.V.Watch.sees v0 c.args.watch.now e0 c.args.engine.now olds (map (seen g.R.Feed.remaining g.R.Feed.calls) c.args.ins.now)
    c.args.inputs.now 0 0 → ShowsRound g.V.Watch.sees v0 c.round.new.watch e0 c.round.new.engine olds (map
    (seen g.R.Feed.remaining g.R.Feed.calls) c.round.new.ins) c.round.new.inputs c.loop-k.k c.round.result
shown g c v0 e0 olds until = c.round.ensures.shown v0 e0 olds c.loop-k.k (c.loop-k.invariant.shown v0 e0 olds until)

-- the result where the run stops
gone : (g : _) (c : goal.After-from_residual g) → c.from_residual.result ≡ Err c.in_err-round.field-0.0
gone g c = search rules

-- what each call needs: its writers, its counts and a buffer, and the run itself
places : (g : _) (c : In-loop-k g) → HasPlaces c.loop-k.engine (length c.loop-k.outs) (length c.loop-k.buf)
places g c =
    let inv = c.loop-k.invariant in
    let was = c.requires.ports.places in
    record {
      many = inv.outs ∙ was.many ∙ ports g c;
      few = omega (arith, inv.outs, was.few);
      counted = (along g c).1.run.each ∙ sym c.requires.underway.run.run.each ∙ was.counted;
      buf = rw inv.buf was.buf;
    }

underway : (g : _) (c : In-loop-k g) → IsUnderway c.args.unit c.loop-k.engine (map (seen g.R.Feed.remaining g.R.Feed.calls) c.loop-k.ins)
    (map (seen g.W.Sink.contents g.W.Sink.calls) c.loop-k.outs) c.loop-k.inputs c.loop-k.k 0
underway g c =
    let start = c.requires.underway in
    let (now, going) = along g c in
    record { before = start.before; had = start.had; held = start.held; inputs = now; run = going }

pub round-requires : goal.round-requires
round-requires g c =
    let inv = c.loop-k.invariant in
    let here = (goal.at.round-requires g c).In-loop-k in
    let same = ports g here in (
      omega arith,
      (
        record { inputs = inv.inputs ∙ c.requires.ports.inputs ∙ same; ins = inv.ins ∙ c.requires.ports.ins ∙ same; places = places g here },
        (c.loop-k.k, underway g here),
      ),
    )

-- the only open input, and its reader
alone : (g : _) (c : After-index-ins-k g) → IsAlone c.in-One.port (slice_index_or c.loop-k.inputs c.in-One.port c.index-inputs-k.result)
    (slice_index_or c.loop-k.ins c.in-One.port c.index-ins-k.result) c.loop-k.inputs c.loop-k.ins
alone g c =
    let inv = c.loop-k.invariant in
    let (there, only) = rw c.in-One.is at c.open_inputs.ensures in
    let many = inv.ins ∙ c.requires.ports.ins ∙ sym c.requires.ports.inputs ∙ sym inv.inputs in
    record {
      many = many;
      input = slice_get-get_or c.loop-k.inputs c.in-One.port c.index-inputs-k.result there;
      reader = slice_get-get_or c.loop-k.ins c.in-One.port c.index-ins-k.result (omega (arith, there, many));
      alone = only;
    }

pub rounds_alone-requires : goal.rounds_alone-requires
rounds_alone-requires g c =
    let loop = (goal.at.rounds_alone-requires g c).In-loop-k in
    let here = alone g (goal.at.rounds_alone-requires g c).After-index-ins-k in
    (omega arith, (places g loop, (c.loop-k.inputs, c.loop-k.ins, c.loop-k.k, here, underway g loop)))

pub returns-in-One : goal.returns-in-One
returns-in-One g c =
    let inv = c.loop-k.invariant in
    let called = c.rounds_alone in
    let here = alone g (goal.at.returns-in-One g c).After-index-ins-k in
    record {
      goes = λ e0 olds held read start.
          let (now, going) = inv.goes e0 olds held read start in
          called.ensures.goes c.loop-k.inputs c.loop-k.ins e0 olds held now c.loop-k.k here going;
      many = length-set c.loop-k.inputs c.in-One.port called.new.input ∙ inv.inputs;
      fared_readers = reader_then g.R.Feed.is_broken g.R.Feed.failures called.result called.result c.in-One.port c.args.ins.now c.loop-k.ins _
          called.new.r inv.ins inv.readers here.reader called.ensures.fared_reader refl;
      fared_writers = writers_then g.W.Sink.is_broken g.W.Sink.failures called.result called.result c.args.outs.now c.loop-k.outs
          called.new.outs inv.outs inv.writers called.ensures.fared_writers refl;
      shown = λ v0 e0 olds until.
          called.ensures.shown c.loop-k.inputs c.loop-k.ins v0 e0 olds c.loop-k.k here (inv.shown v0 e0 olds until);
    }

pub loop-k-preserved : goal.loop-k-preserved
loop-k-preserved g c =
    let inv = c.loop-k.invariant in
    let (inputs, ins, outs, buf) = c.round.ensures.many in
    let after = (goal.at.loop-k-preserved g c).After-round in
    let (readers, writers) = fared g after (Ok tt) c.in_ok-round.was in
    record {
      inputs = inputs ∙ inv.inputs;
      ins = ins ∙ inv.ins;
      outs = outs ∙ inv.outs;
      buf = buf ∙ inv.buf;
      goes = λ e0 olds held read start. rw c.in_ok-round.was at (went g after e0 olds held read start);
      readers = readers;
      writers = writers;
      shown = λ v0 e0 olds until. rw c.in_ok-round.was at (shown g after v0 e0 olds until);
    }

pub returns-in-Zero : goal.returns-in-Zero
returns-in-Zero g c =
    let inv = c.loop-k.invariant in
    let none = rw c.in-Zero.is at c.open_inputs.ensures in
    record {
      goes = λ e0 olds held read start. let (now, along) = inv.goes e0 olds held read start in went_all along none;
      many = inv.inputs;
      fared_readers = inv.readers;
      fared_writers = inv.writers;
      shown = λ v0 e0 olds until. shown_all (inv.shown v0 e0 olds until) none;
    }

pub returns-in_err-round : goal.returns-in_err-round
returns-in_err-round g c =
    let after = (goal.at.returns-in_err-round g c).After-round in
    let (readers, writers) = fared g after c.from_residual.result (c.in_err-round.was ∙ sym (gone g c)) in
    record {
      goes = λ e0 olds held read start. rw (gone g c) (rw c.in_err-round.was at (went g after e0 olds held read start));
      many = c.round.ensures.many.0 ∙ c.loop-k.invariant.inputs;
      fared_readers = readers;
      fared_writers = writers;
      shown = λ v0 e0 olds until. rw (gone g c) (rw c.in_err-round.was at (shown g after v0 e0 olds until));
    }

pub returns : goal.returns
returns g c =
    let inv = c.loop-k.invariant in
    let start = c.requires.underway in
    record {
      goes = λ e0 olds held read start.
          let (now, along) = inv.goes e0 olds held read start in went_all along (none_left along (omega (arith, c.loop-k-test.false)));
      many = inv.inputs;
      fared_readers = inv.readers;
      fared_writers = inv.writers;
      shown = λ v0 e0 olds until.
          let (now, along) = inv.goes start.before start.had start.held start.inputs start.run in
          shown_all (inv.shown v0 e0 olds until) (none_left along (omega (arith, c.loop-k-test.false)));
    }
