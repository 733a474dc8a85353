-- `trace_round`: one more input, and the first with a fault. What a call needs is derived where tracing has come.
use Rattle.std.proofs.Common.{◌≡◌, ◌≤◌, Result, Ok, length, ap, ◌∙◌, arith}
use Rattle.std.specs.Prelude.{slice_get, slice_index_or, slice_set, Some, ⊤}
use Rattle.std.proofs.lemmas.List.{length-set}
use Rattle.std.proofs.lemmas.Option.{slice_get-get_or}
use Rattle.dp_pcap.specs.declared.format.TheConstants.{MAX_RECORD}
use Rattle.dp_pipe.specs.declared.forwarding.RunCause.{RunCause}
use Rattle.dp_pipe.specs.Devices.{seen, AllFared, failed_reader}
use Rattle.dp_pipe.specs.Tracing.{TracesStep, cause_at}
use Rattle.dp_pipe.proofs.Faring.{reader_then}
use Rattle.dp_pipe.proofs.TracedReads.{open_until, round_over, step_counts, step_on, step_stops}
use Rattle.dp_pipe.proofs.tracing.trace_round.Goals as goal
use Rattle.dp_pipe.proofs.tracing.trace_round.Goals.{After-index-ins-k, After-trace_port}

-- the input of the port, and its reader
input_here : (g : _) (c : After-index-ins-k g)
    → slice_get c.loop-port.inputs c.loop-port.port ≡ Some (slice_index_or c.loop-port.inputs c.loop-port.port c.index-inputs-k.result)
input_here g c =
    slice_get-get_or c.loop-port.inputs c.loop-port.port c.index-inputs-k.result
    (omega (arith, c.loop-port.invariant.inputs, c.loop-port-test.true, c.requires.can.inputs, c.requires.can.ins))

reader_here : (g : _) (c : After-index-ins-k g)
    → slice_get c.loop-port.ins c.loop-port.port ≡ Some (slice_index_or c.loop-port.ins c.loop-port.port c.index-ins-k.result)
reader_here g c =
    slice_get-get_or c.loop-port.ins c.loop-port.port c.index-ins-k.result (omega (arith, c.loop-port.invariant.ins, c.loop-port-test.true))

pub trace_port-requires : goal.trace_port-requires
trace_port-requires g c =
    let inv = c.loop-port.invariant in
    let (v0, e0, most, had, k, until) = c.requires.until in
    let ports = ap (λ (s : _). length s.env.ports) inv.setting in
    let buf : MAX_RECORD ≤ length c.loop-port.buf = rw inv.buf c.requires.can.buf in (
      omega arith,
      (
        omega (arith, ports, c.loop-port-test.true, c.requires.can.ins),
        (
          buf,
          (
            omega (arith, inv.turns, c.requires.can.limit),
            open_until (inv.goes k v0 e0 most had until) c.loop-port.port (input_here g (goal.at.trace_port-requires g c).After-index-ins-k),
          ),
        ),
      ),
    )

-- the call for the input, of the port that is traced
step : (g : _) (c : After-trace_port g)
    → TracesStep g.T.Watch.sees g.T.Tracer.noted c.loop-port.tracer c.trace_port.new.tracer c.args.which.now.port c.loop-port.port c.loop-port.engine
    c.trace_port.new.engine (slice_index_or c.loop-port.inputs c.loop-port.port c.index-inputs-k.result) c.trace_port.new.input
    (seen g.R.Feed.remaining g.R.Feed.calls) (slice_index_or c.loop-port.ins c.loop-port.port c.index-ins-k.result) c.trace_port.new.r
    c.loop-port.which.records c.trace_port.new.which.records c.trace_port.result
step g c = rw (← c.loop-port.invariant.only) c.trace_port.ensures.step

-- how the readers are after each result
fared : (g : _) (c : After-trace_port g) (given : Result ⊤ RunCause) → cause_at c.loop-port.port c.trace_port.result ≡ given
    → AllFared g.R.Feed.is_broken g.R.Feed.failures (failed_reader given) c.args.ins.now (slice_set c.loop-port.ins c.loop-port.port c.trace_port.new.r)
fared g c given is =
    let inv = c.loop-port.invariant in
    reader_then g.R.Feed.is_broken g.R.Feed.failures (cause_at c.loop-port.port c.trace_port.result) given c.loop-port.port c.args.ins.now c.loop-port.ins _
    c.trace_port.new.r inv.ins inv.readers (slice_get-get_or c.loop-port.ins c.loop-port.port c.index-ins-k.result
    (omega (arith, inv.ins, c.loop-port-test.true))) c.trace_port.ensures.fared is

pub loop-port-preserved : goal.loop-port-preserved
loop-port-preserved g c =
    let inv = c.loop-port.invariant in
    let t = c.trace_port in
    let here = (goal.at.loop-port-preserved g c).After-index-ins-k in
    let called = step g (goal.at.loop-port-preserved g c).After-trace_port in
    let (turns, setting) = step_counts (seen g.R.Feed.remaining g.R.Feed.calls) called in
    record {
      inputs = length-set c.loop-port.inputs c.loop-port.port t.new.input ∙ inv.inputs;
      ins = length-set c.loop-port.ins c.loop-port.port t.new.r ∙ inv.ins;
      buf = t.ensures.buf ∙ inv.buf;
      only = t.ensures.port ∙ inv.only;
      turns = turns ∙ inv.turns;
      setting = setting ∙ inv.setting;
      goes = λ k v0 e0 most had until.
          step_on (seen g.R.Feed.remaining g.R.Feed.calls) called c.loop-port.ins (inv.goes k v0 e0 most had until) (input_here g here)
          (reader_here g here) c.in-Ok.is;
      readers = fared g (goal.at.loop-port-preserved g c).After-trace_port (Ok tt) (ap (cause_at c.loop-port.port) c.in-Ok.is);
    }

pub returns-in-Err : goal.returns-in-Err
returns-in-Err g c =
    let inv = c.loop-port.invariant in
    let here = (goal.at.returns-in-Err g c).After-index-ins-k in
    let called = step g (goal.at.returns-in-Err g c).After-trace_port in
    let (turns, setting) = step_counts (seen g.R.Feed.remaining g.R.Feed.calls) called in
    record {
      goes = λ v0 e0 most had k until.
          step_stops (seen g.R.Feed.remaining g.R.Feed.calls) called c.loop-port.ins (inv.goes k v0 e0 most had until) (input_here g here)
          (reader_here g here) c.in-Err.error c.in-Err.is;
      turns = turns ∙ inv.turns;
      setting = setting ∙ inv.setting;
      port = c.trace_port.ensures.port ∙ inv.only;
      many = (
        length-set c.loop-port.inputs c.loop-port.port c.trace_port.new.input ∙ inv.inputs,
        length-set c.loop-port.ins c.loop-port.port c.trace_port.new.r ∙ inv.ins,
        c.trace_port.ensures.buf ∙ inv.buf,
      );
      cause = tt;
      fared = fared g (goal.at.returns-in-Err g c).After-trace_port _ (ap (cause_at c.loop-port.port) c.in-Err.is);
    }

pub returns : goal.returns
returns g c =
    let inv = c.loop-port.invariant in
    record {
      goes = λ v0 e0 most had k until.
          round_over (inv.goes k v0 e0 most had until) (omega (arith, inv.inputs, c.loop-port-test.false, c.requires.can.inputs, c.requires.can.ins));
      turns = inv.turns;
      setting = inv.setting;
      port = inv.only;
      many = (inv.inputs, inv.ins, inv.buf);
      cause = tt;
      fared = inv.readers;
    }
