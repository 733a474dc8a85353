-- `round`: one more input, and the first at which the run stops. Each call is derived once, at the input that is asked.
use Rattle.std.proofs.Common.{rules, ◌≡◌, ◌≤◌, ℕ, List, Result, Ok, Err, length, map, sym, ap, ◌∙◌, arith}
use Rattle.std.specs.Prelude.{Some, slice_get, slice_index_or, slice_set, ⊤}
use Rattle.std.proofs.lemmas.Option.{slice_get-get_or}
use Rattle.std.proofs.lemmas.List.{length-set}
use Rattle.dp_pcap.specs.declared.format.TheConstants.{MAX_RECORD}
use Rattle.dp_engine.specs.Engines.{EngineState}
use Rattle.dp_pipe.specs.declared.forwarding.RunCause.{RunCause}
use Rattle.dp_pipe.specs.Devices.{Device, seen, transfer, AllFared, AllSound, failed_reader, failed_writer}
use Rattle.dp_pipe.specs.Forwarding.{Input, RunUntil}
use Rattle.dp_pipe.proofs.Watched.{shown_on, shown_round, shown_stops}
use Rattle.dp_pipe.proofs.Faring.{reader_then, writers_then}
use Rattle.dp_pipe.proofs.Rounding.{Comes, can_ask, asked_on, asked_stops, round_over}
use Rattle.dp_pipe.proofs.forwarding.round.Goals as goal
use Rattle.dp_pipe.proofs.forwarding.round.Goals.{After-index-ins-k, After-ask}

-- the input of the port, and its reader
input_here : (g : _) (c : After-index-ins-k g)
    → slice_get c.loop-port.inputs c.loop-port.port ≡ Some (slice_index_or c.loop-port.inputs c.loop-port.port c.index-inputs-k.result)
input_here g c =
    slice_get-get_or c.loop-port.inputs c.loop-port.port c.index-inputs-k.result (omega (arith, c.loop-port.invariant.inputs, c.loop-port-test.true))

reader_here : (g : _) (c : After-index-ins-k g)
    → slice_get c.loop-port.ins c.loop-port.port ≡ Some (slice_index_or c.loop-port.ins c.loop-port.port c.index-ins-k.result)
reader_here g c =
    slice_get-get_or c.loop-port.ins c.loop-port.port c.index-ins-k.result
    (omega (arith, c.loop-port.invariant.ins, c.loop-port-test.true, c.requires.ports.inputs, c.requires.ports.ins))

-- the input of the port and its reader, where the run continues
opened : (g : _) (c : After-index-ins-k g) (e0 : EngineState) (olds held : List Device) (read : List Input) (k : ℕ)
    → RunUntil c.args.unit e0 c.args.engine.now (transfer olds (map (seen g.R.Feed.remaining g.R.Feed.calls) c.args.ins.now) held (map
    (seen g.W.Sink.contents g.W.Sink.calls) c.args.outs.now)) c.args.inputs.now read k
    0 → Comes (seen g.R.Feed.remaining g.R.Feed.calls) (seen g.W.Sink.contents g.W.Sink.calls) c.args.unit e0 c.loop-port.engine olds held c.loop-port.ins
    c.loop-port.outs c.loop-port.inputs k
    c.loop-port.port (slice_index_or c.loop-port.inputs c.loop-port.port c.index-inputs-k.result)
    (slice_index_or c.loop-port.ins c.loop-port.port c.index-ins-k.result)
opened g c e0 olds held read k start =
    let inv = c.loop-port.invariant in
    let (now, along) = inv.goes k e0 olds held read start in
    let ports = ap (λ (x : EngineState). length x.setting.env.ports) start.run.stays in
    record {
      inputs = now;
      along = along;
      input = input_here g c;
      reader = reader_here g c;
      there = omega (arith, ports, c.loop-port-test.true, c.requires.ports.inputs);
      few = omega (arith, ports, c.requires.ports.places.many, c.requires.ports.places.few);
      many = inv.outs ∙ c.requires.ports.places.many ∙ ports;
      counted = sym start.run.each ∙ c.requires.ports.places.counted;
    }

-- the same, of the run that there is
found : (g : _) (c : After-index-ins-k g) → let (k, start) = c.requires.underway in Comes (seen g.R.Feed.remaining g.R.Feed.calls)
    (seen g.W.Sink.contents g.W.Sink.calls) c.args.unit start.before c.loop-port.engine start.had start.held c.loop-port.ins c.loop-port.outs
    c.loop-port.inputs k c.loop-port.port
    (slice_index_or c.loop-port.inputs c.loop-port.port c.index-inputs-k.result) (slice_index_or c.loop-port.ins c.loop-port.port c.index-ins-k.result)
found g c = let (k, start) = c.requires.underway in opened g c start.before start.had start.held start.inputs k start.run

-- how the devices are after each result
fared : (g : _) (c : After-ask g) (given : Result ⊤ RunCause) → c.ask.result ≡ given
    → AllFared g.R.Feed.is_broken g.R.Feed.failures (failed_reader given) c.args.ins.now (slice_set c.loop-port.ins c.loop-port.port c.ask.new.r)
    × (AllSound g.W.Sink.is_broken c.args.outs.now → AllFared g.W.Sink.is_broken g.W.Sink.failures (failed_writer given) c.args.outs.now c.ask.new.outs)
fared g c given is =
    let inv = c.loop-port.invariant in (
      reader_then g.R.Feed.is_broken g.R.Feed.failures c.ask.result given c.loop-port.port c.args.ins.now c.loop-port.ins _ c.ask.new.r inv.ins
          inv.readers (slice_get-get_or c.loop-port.ins c.loop-port.port c.index-ins-k.result
          (omega (arith, inv.ins, c.loop-port-test.true, c.requires.ports.inputs, c.requires.ports.ins))) c.ask.ensures.fared_reader is,
      writers_then g.W.Sink.is_broken g.W.Sink.failures c.ask.result given c.args.outs.now c.loop-port.outs c.ask.new.outs inv.outs inv.writers
          c.ask.ensures.fared_writers is,
    )

-- the result where the run stops
gone : (g : _) (c : goal.After-from_residual g) → c.from_residual.result ≡ Err c.in_err-ask.field-0.0
gone g c = search rules

pub ask-requires : goal.ask-requires
ask-requires g c =
    let here = found g (goal.at.ask-requires g c).After-index-ins-k in
    let inv = c.loop-port.invariant in
    let few : length c.loop-port.outs ≤ 8 = omega (arith, inv.outs, c.requires.ports.places.few) in
    let buf : MAX_RECORD ≤ length c.loop-port.buf = rw inv.buf c.requires.ports.places.buf in
    (omega arith, can_ask here few buf)

pub loop-port-preserved : goal.loop-port-preserved
loop-port-preserved g c =
    let inv = c.loop-port.invariant in
    let here = (goal.at.loop-port-preserved g c).After-index-ins-k in
    let (readers, writers) = fared g (goal.at.loop-port-preserved g c).After-ask (Ok tt) c.in_ok-ask.was in
    record {
      inputs = length-set c.loop-port.inputs c.loop-port.port c.ask.new.input ∙ inv.inputs;
      ins = length-set c.loop-port.ins c.loop-port.port c.ask.new.r ∙ inv.ins;
      outs = c.ask.ensures.many ∙ inv.outs;
      buf = c.ask.ensures.buf ∙ inv.buf;
      goes = λ k e0 olds held read start.
          asked_on (opened g here e0 olds held read k start) (λ open_p. (c.ask.ensures.step open_p).0)
          (λ closed. let (ok, e, p, r, outs, v) = c.ask.ensures.over closed in (ok, e, p, r, outs)) c.in_ok-ask.was;
      readers = readers;
      writers = writers;
      shown = λ k v0 e0 olds until.
          shown_on (seen g.R.Feed.remaining g.R.Feed.calls) c.loop-port.ins c.ask.ensures.step (input_here g here) (reader_here g here)
          (inv.shown k v0 e0 olds until)
          (λ closed. let (ok, e, p, r, outs, v) = c.ask.ensures.over closed in (ok, e, p, r, v)) c.in_ok-ask.was;
    }

pub returns-in_err-ask : goal.returns-in_err-ask
returns-in_err-ask g c =
    let here = (goal.at.returns-in_err-ask g c).After-index-ins-k in
    let (readers, writers) = fared g (goal.at.returns-in_err-ask g c).After-ask c.from_residual.result (c.in_err-ask.was ∙ sym (gone g c)) in
    record {
      goes = λ e0 olds held read k start.
          rw (gone g c) (asked_stops (opened g here e0 olds held read k start) (λ open_p. (c.ask.ensures.step open_p).0)
          (λ closed. let (ok, e, p, r, outs, v) = c.ask.ensures.over closed in (ok, e, p, r, outs)) _ c.in_err-ask.was);
      many = search rules;
      fared_readers = readers;
      fared_writers = writers;
      shown = λ v0 e0 olds k until.
          rw (gone g c) (shown_stops (seen g.R.Feed.remaining g.R.Feed.calls) c.loop-port.ins c.ask.ensures.step (input_here g here)
          (reader_here g here) (c.loop-port.invariant.shown k v0 e0 olds until) (λ closed. (c.ask.ensures.over closed).0) _ c.in_err-ask.was);
    }

pub returns : goal.returns
returns g c =
    let inv = c.loop-port.invariant in
    record {
      goes = λ e0 olds held read k start.
          let (now, along) = inv.goes k e0 olds held read start in
          (now, round_over along (omega (arith, inv.inputs, c.loop-port-test.false)));
      many = (inv.inputs, inv.ins, inv.outs, inv.buf);
      fared_readers = inv.readers;
      fared_writers = inv.writers;
      shown = λ v0 e0 olds k until. shown_round (inv.shown k v0 e0 olds until) (omega (arith, inv.inputs, c.loop-port-test.false));
    }
