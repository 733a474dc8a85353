-- `trace_records`: headers in, and all rounds.
use Rattle.std.proofs.Common.{rules, ◌≡◌, false, length, map, refl, sym, ap, ◌∙◌, arith}
use Rattle.std.specs.Prelude.{Err}
use Rattle.std.proofs.lemmas.List.{length-map}
use Rattle.dp_pipe.specs.Devices.{seen, AllFared, failed_reader}
use Rattle.dp_pipe.specs.Tracing.{TracesUntil}
use Rattle.dp_pipe.proofs.TracedReads.{header_fault, until_none}
use Rattle.dp_pipe.proofs.Faring.{all_then, sound_readers}
use Rattle.dp_pipe.proofs.tracing.trace_records.Goals as goal
use Rattle.dp_pipe.proofs.tracing.trace_records.Goals.{After-from_residual, In_ok-read_headers}

-- the result where a header is at fault
gone : (g : _) (c : After-from_residual g) → c.from_residual.result ≡ Err c.in_err-read_headers.field-0.0
gone g c = search rules

pub returns-in_err-read_headers-clause-traced : goal.returns-in_err-read_headers-clause-traced
returns-in_err-read_headers-clause-traced g c =
    rw (gone g (goal.at.returns-in_err-read_headers-clause-traced g c).After-from_residual) (header_fault g.T.Watch.sees g.T.Tracer.noted c.args.tracer.now
    c.args.which.port c.args.which.records c.args.engine.now (map (seen g.R.Feed.remaining g.R.Feed.calls) c.args.ins.now)
    (map (seen g.R.Feed.remaining g.R.Feed.calls) c.read_headers.new.ins) c.in_err-read_headers.field-0.0 c.in_err-read_headers.ensures.err)

-- where tracing begins
begin : (g : _) (c : In_ok-read_headers g)
    → TracesUntil g.T.Watch.sees g.T.Tracer.noted c.args.tracer.now c.args.tracer.now c.args.which.port c.args.which.records c.args.engine.now
    c.args.engine.now (map (seen g.R.Feed.remaining g.R.Feed.calls) c.args.ins.now) (map (seen g.R.Feed.remaining g.R.Feed.calls) c.read_headers.new.ins)
    c.read_headers.new.inputs.items 0 0 c.args.which.records
begin g c =
    until_none g.T.Watch.sees g.T.Tracer.noted c.args.tracer.now c.args.which.port c.args.which.records c.args.engine.now
    (map (seen g.R.Feed.remaining g.R.Feed.calls) c.args.ins.now) (map (seen g.R.Feed.remaining g.R.Feed.calls) c.read_headers.new.ins)
    c.read_headers.new.inputs.items (c.in_ok-read_headers.ensures.all ∙ sym (length-map c.args.ins.now (seen g.R.Feed.remaining g.R.Feed.calls)))
    c.in_ok-read_headers.ensures.ok c.read_headers.ensures.begun

pub trace_rounds-requires : goal.trace_rounds-requires
trace_rounds-requires g c =
    let here : c.as_mut_slice.result.now ≡ c.read_headers.new.inputs.items = search rules in (
      omega arith,
      (
        record {
          inputs = ap length here ∙ c.in_ok-read_headers.ensures.all ∙ c.requires.readers;
          ins = c.read_headers.ensures.many ∙ c.requires.readers;
          few = omega (arith, c.read_headers.ensures.many, c.requires.few);
          buf = c.requires.buf;
          limit = omega (arith, c.requires.first, c.requires.limit);
        },
        (
          c.args.tracer.now,
          c.args.engine.now,
          c.args.which.records,
          map (seen g.R.Feed.remaining g.R.Feed.calls) c.args.ins.now,
          rw here (begin g (goal.at.trace_rounds-requires g c).In_ok-read_headers),
        ),
      ),
    )

pub returns-clause-traced : goal.returns-clause-traced
returns-clause-traced g c =
    let here : c.as_mut_slice.result.now ≡ c.read_headers.new.inputs.items = search rules in
    c.trace_rounds.ensures.goes c.args.tracer.now c.args.engine.now c.args.which.records (map (seen g.R.Feed.remaining g.R.Feed.calls) c.args.ins.now)
    (rw here (begin g (goal.at.returns-clause-traced g c).In_ok-read_headers))

-- how the readers are after all headers were read
read : (g : _) (c : In_ok-read_headers g) → AllFared g.R.Feed.is_broken g.R.Feed.failures (λ q. false) c.args.ins.now c.read_headers.new.ins
read g c = rw c.in_ok-read_headers.was at c.read_headers.ensures.fared

pub returns-in_err-read_headers-clause-fared : goal.returns-in_err-read_headers-clause-fared
returns-in_err-read_headers-clause-fared g c =
    rw (gone g (goal.at.returns-in_err-read_headers-clause-fared g c).After-from_residual) (rw c.in_err-read_headers.was at c.read_headers.ensures.fared)

pub returns-clause-fared : goal.returns-clause-fared
returns-clause-fared g c =
    all_then g.R.Feed.is_broken g.R.Feed.failures (failed_reader c.trace_rounds.result) c.args.ins.now c.read_headers.new.ins c.trace_rounds.new.ins
    c.read_headers.ensures.many (read g (goal.at.returns-clause-fared g c).In_ok-read_headers) c.trace_rounds.ensures.fared

pub returns-clause-sound : goal.returns-clause-sound
returns-clause-sound g c ok =
    let sound = c.read_headers.ensures.sound (rw c.in_ok-read_headers.was refl) in
    sound_readers g.R.Feed.is_broken g.R.Feed.failures c.trace_rounds.result c.read_headers.new.ins c.trace_rounds.new.ins c.trace_rounds.ensures.many
    c.trace_rounds.ensures.fared sound ok
