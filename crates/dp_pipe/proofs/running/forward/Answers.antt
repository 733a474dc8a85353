-- `forward`: headers in, headers out, and all rounds.
use Rattle.std.proofs.Common.{rules, ◌≡◌, ◌≤◌, ◌∙◌, inl, inr, Err, sym, ap, arith, length, map, drop, refl, false}
use Rattle.std.proofs.lemmas.Grind.{common_steps}
use Rattle.std.proofs.lemmas.List.{length-map}
use Rattle.dp_pipe.specs.Forwarding.{AreRounds}
use Rattle.dp_pipe.specs.Running.{all_begun}
use Rattle.dp_pipe.proofs.Reading.{are_read}
use Rattle.dp_pipe.proofs.Through.{along_none, back, fail_read, fail_write, stays_rounds}
use Rattle.dp_pipe.specs.Devices.{seen, transfer, AllFared, failed_reader, failed_writer}
use Rattle.dp_pipe.specs.Watched.{ShowsUntil}
use Rattle.dp_pipe.proofs.Watched.{shown_begun, shown_header, shown_unwritten}
use Rattle.dp_pipe.proofs.Faring.{all_same, all_then, no_writer, no_reader, sound_readers, sound_writers}
use Rattle.dp_pipe.proofs.running.forward.Goals as goal
use Rattle.dp_pipe.proofs.running.forward.Goals.{After-from_residual, After-from_residual-in_err-put_headers, In_ok-read_headers}

-- the result where a header is at fault, and where one is not written
not_read : (g : _) (c : After-from_residual g) → c.from_residual.result ≡ Err c.in_err-read_headers.field-0.0
not_read g c = search rules

not_written : (g : _) (c : After-from_residual-in_err-put_headers g) → c.from_residual-in_err-put_headers.result ≡ Err c.in_err-put_headers.field-0.0
not_written g c = search rules

-- how the readers are after all headers were read
read : (g : _) (c : In_ok-read_headers g) → AllFared g.R.Feed.is_broken g.R.Feed.failures (λ q. false) c.args.ins.now c.read_headers.new.ins
read g c = rw c.in_ok-read_headers.was at c.read_headers.ensures.fared

pub returns-in_err-read_headers-clause-forward : goal.returns-in_err-read_headers-clause-forward
returns-in_err-read_headers-clause-forward g c =
    let gone = not_read g (goal.at.returns-in_err-read_headers-clause-forward g c).After-from_residual in
    rw gone (inl (fail_read c.args.engine.now (map (seen g.R.Feed.remaining g.R.Feed.calls) c.args.ins.now) (map
    (seen g.R.Feed.remaining g.R.Feed.calls) c.read_headers.new.ins)
    (map (seen g.W.Sink.contents g.W.Sink.calls) c.args.outs.now) c.read_headers.new.inputs.items
    c.in_err-read_headers.field-0.0 c.in_err-read_headers.ensures.begun c.in_err-read_headers.ensures.err))

pub returns-in_err-read_headers-clause-many : goal.returns-in_err-read_headers-clause-many
returns-in_err-read_headers-clause-many g c = omega (arith, c.read_headers.ensures.most, c.requires.readers)

pub returns-in_err-put_headers-clause-forward : goal.returns-in_err-put_headers-clause-forward
returns-in_err-put_headers-clause-forward g c =
    let gone = not_written g (goal.at.returns-in_err-put_headers-clause-forward g c).After-from_residual-in_err-put_headers in
    let here : c.as_slice.result.now ≡ c.read_headers.new.inputs.items = search rules in
    let progress_is = c.in_ok-read_headers.ensures.ok in
    let cause = rw (c.unit_for-unit.ensures, here) at c.in_err-put_headers.ensures.err in
    rw gone (inl (fail_write c.args.engine.now (transfer (map (seen g.R.Feed.remaining g.R.Feed.calls) c.args.ins.now) (map
    (seen g.R.Feed.remaining g.R.Feed.calls) c.read_headers.new.ins)
    (map (seen g.W.Sink.contents g.W.Sink.calls) c.args.outs.now) (map (seen g.W.Sink.contents g.W.Sink.calls) c.put_headers.new.outs))
    c.read_headers.new.inputs.items c.in_err-put_headers.field-0.0 (c.in_ok-read_headers.ensures.all
    ∙ c.requires.readers) (are_read progress_is)
    c.read_headers.ensures.begun cause))

pub rounds-requires : goal.rounds-requires
rounds-requires g c =
    let here : c.as_mut_slice.result.now ≡ c.read_headers.new.inputs.items = search rules in
    let unread : c.as_slice.result.now ≡ c.read_headers.new.inputs.items = search rules in
    let mids = map (seen g.W.Sink.contents g.W.Sink.calls) c.put_headers.new.outs in
    let many : length mids ≡ length c.args.engine.now.setting.env.ports = length-map c.put_headers.new.outs (seen g.W.Sink.contents g.W.Sink.calls)
    ∙ c.put_headers.ensures.many
    ∙ c.requires.writers in
    let inputs = ap length here ∙ c.in_ok-read_headers.ensures.all ∙ c.requires.readers in
    let ins = c.read_headers.ensures.many ∙ c.requires.readers in
    let outs = c.put_headers.ensures.many ∙ c.requires.writers in
    let few : length c.put_headers.new.outs ≤ 8 = omega (arith, outs, c.requires.few) in
    let along = along_none c.unit_for-unit.result c.args.engine.now (map (seen g.R.Feed.remaining g.R.Feed.calls) c.args.ins.now) (map
    (seen g.R.Feed.remaining g.R.Feed.calls) c.read_headers.new.ins) mids
    c.read_headers.new.inputs.items c.requires.first many
    (c.in_ok-read_headers.ensures.all ∙ c.requires.readers) (rw unread at c.unit_for-unit.ensures) c.in_ok-read_headers.ensures.ok
    c.read_headers.ensures.begun in (
      omega arith,
      (
        record {
          inputs = inputs;
          ins = ins;
          places = record { many = outs; few = few; counted = c.requires.counted; buf = c.requires.buf };
        },
        record {
          before = c.args.engine.now;
          had = map (seen g.R.Feed.remaining g.R.Feed.calls) c.args.ins.now;
          held = mids;
          inputs = all_begun c.read_headers.new.inputs.items;
          run = rw here along;
        },
      ),
    )

-- as many writers as ports
writers_many : (g : _) (c : goal.After-slice_known-2-1 g) → length (map
    (seen g.W.Sink.contents g.W.Sink.calls) c.put_headers.new.outs) ≡ length c.args.engine.now.setting.env.ports
writers_many g c = length-map c.put_headers.new.outs (seen g.W.Sink.contents g.W.Sink.calls) ∙ c.put_headers.ensures.many ∙ c.requires.writers

-- all rounds, after headers that were read and written
went : (g : _) (c : goal.After-slice_known-2-1 g)
    → AreRounds c.unit_for-unit.result c.args.engine.now c.rounds.new.engine (transfer (map (seen g.R.Feed.remaining g.R.Feed.calls) c.args.ins.now) (map
    (seen g.R.Feed.remaining g.R.Feed.calls) c.rounds.new.ins) (map (seen g.W.Sink.contents g.W.Sink.calls) c.put_headers.new.outs) (map
    (seen g.W.Sink.contents g.W.Sink.calls) c.rounds.new.outs)) c.rounds.new.inputs c.rounds.result
went g c =
    let here : c.as_mut_slice.result.now ≡ c.read_headers.new.inputs.items = search rules in
    let unread : c.as_slice.result.now ≡ c.read_headers.new.inputs.items = search rules in
    let mids = map (seen g.W.Sink.contents g.W.Sink.calls) c.put_headers.new.outs in
    let along = along_none c.unit_for-unit.result c.args.engine.now (map (seen g.R.Feed.remaining g.R.Feed.calls) c.args.ins.now) (map
    (seen g.R.Feed.remaining g.R.Feed.calls) c.read_headers.new.ins)
    mids c.read_headers.new.inputs.items c.requires.first (writers_many g c)
    (c.in_ok-read_headers.ensures.all ∙ c.requires.readers) (rw unread at c.unit_for-unit.ensures) c.in_ok-read_headers.ensures.ok
    c.read_headers.ensures.begun in
    c.rounds.ensures.goes c.args.engine.now (map (seen g.R.Feed.remaining g.R.Feed.calls) c.args.ins.now) mids (all_begun c.read_headers.new.inputs.items)
    (rw here along)

pub returns-clause-forward : goal.returns-clause-forward
returns-clause-forward g c =
    let len : c.read_headers.new.inputs.len ≡ length c.rounds.new.inputs = omega (arith, c.rounds.ensures.many, c.as_mut_slice.ensures.len) in
    let same = back c.read_headers.new.inputs.len c.rounds.new.inputs (drop (length c.rounds.new.inputs) c.read_headers.new.inputs.items) len in
    rw same (inr (record {
      unit = c.unit_for-unit.result;
      mids = map (seen g.W.Sink.contents g.W.Sink.calls) c.put_headers.new.outs;
      mids_many = writers_many g c ∙ sym c.requires.writers ∙ sym (length-map c.args.outs.now (seen g.W.Sink.contents g.W.Sink.calls));
      headers = c.in_ok-put_headers.ensures.ok;
      rounds = went g c;
    }))

pub returns-clause-setting : goal.returns-clause-setting
returns-clause-setting g c =
    (stays_rounds c.unit_for-unit.result c.args.engine.now c.rounds.new.engine _ c.rounds.new.inputs c.rounds.result (went g c)).setting

pub returns-clause-counted : goal.returns-clause-counted
returns-clause-counted g c =
    (stays_rounds c.unit_for-unit.result c.args.engine.now c.rounds.new.engine _ c.rounds.new.inputs c.rounds.result (went g c)).each
    ∙ c.requires.counted

pub returns-in_err-read_headers-clause-fared_readers : goal.returns-in_err-read_headers-clause-fared_readers
returns-in_err-read_headers-clause-fared_readers g c =
    let gone = not_read g (goal.at.returns-in_err-read_headers-clause-fared_readers g c).After-from_residual in
    rw gone (rw c.in_err-read_headers.was at c.read_headers.ensures.fared)

pub returns-in_err-read_headers-clause-fared_writers : goal.returns-in_err-read_headers-clause-fared_writers
returns-in_err-read_headers-clause-fared_writers g c =
    let gone = not_read g (goal.at.returns-in_err-read_headers-clause-fared_writers g c).After-from_residual in
    rw gone (all_same g.W.Sink.is_broken g.W.Sink.failures _ c.args.outs.now (no_writer _ _ c.in_err-read_headers.field-0.0 c.in_err-read_headers.ensures.err))

pub returns-in_err-put_headers-clause-fared_readers : goal.returns-in_err-put_headers-clause-fared_readers
returns-in_err-put_headers-clause-fared_readers g c =
    let gone = not_written g (goal.at.returns-in_err-put_headers-clause-fared_readers g c).After-from_residual-in_err-put_headers in
    let read = read g (goal.at.returns-in_err-put_headers-clause-fared_readers g c).In_ok-read_headers in
    rw gone (all_then g.R.Feed.is_broken g.R.Feed.failures _ c.args.ins.now c.read_headers.new.ins c.read_headers.new.ins c.read_headers.ensures.many read
    (all_same g.R.Feed.is_broken g.R.Feed.failures _ c.read_headers.new.ins (no_reader _ _ _ c.in_err-put_headers.field-0.0 c.in_err-put_headers.ensures.err)))

pub returns-in_err-put_headers-clause-fared_writers : goal.returns-in_err-put_headers-clause-fared_writers
returns-in_err-put_headers-clause-fared_writers g c =
    let gone = not_written g (goal.at.returns-in_err-put_headers-clause-fared_writers g c).After-from_residual-in_err-put_headers in
    rw gone (rw c.in_err-put_headers.was at c.put_headers.ensures.fared)

pub returns-clause-sound : goal.returns-clause-sound
returns-clause-sound g c ok =
    let readers : length c.rounds.new.ins ≡ length c.read_headers.new.ins = search rules in
    let writers : length c.rounds.new.outs ≡ length c.put_headers.new.outs = search rules in
    let read = c.read_headers.ensures.sound (rw c.in_ok-read_headers.was refl) in
    let written = c.put_headers.ensures.sound (rw c.in_ok-put_headers.was refl) in (
      sound_readers g.R.Feed.is_broken g.R.Feed.failures c.rounds.result c.read_headers.new.ins c.rounds.new.ins readers c.rounds.ensures.fared_readers read ok,
      sound_writers g.W.Sink.is_broken g.W.Sink.failures c.rounds.result c.put_headers.new.outs c.rounds.new.outs writers
          (c.rounds.ensures.fared_writers written) written ok,
    )

pub returns-clause-fared_readers : goal.returns-clause-fared_readers
returns-clause-fared_readers g c =
    let read = read g (goal.at.returns-clause-fared_readers g c).In_ok-read_headers in
    all_then g.R.Feed.is_broken g.R.Feed.failures (failed_reader c.rounds.result) c.args.ins.now c.read_headers.new.ins c.rounds.new.ins
    c.read_headers.ensures.many read c.rounds.ensures.fared_readers

pub returns-clause-fared_writers : goal.returns-clause-fared_writers
returns-clause-fared_writers g c =
    let written = rw c.in_ok-put_headers.was at c.put_headers.ensures.fared in
    all_then g.W.Sink.is_broken g.W.Sink.failures (failed_writer c.rounds.result) c.args.outs.now c.put_headers.new.outs c.rounds.new.outs
    c.put_headers.ensures.many written
    (c.rounds.ensures.fared_writers (c.put_headers.ensures.sound (rw c.in_ok-put_headers.was refl)))

-- where the run begins, for a watcher
begins : (g : _) (c : In_ok-read_headers g) → ShowsUntil g.V.Watch.sees c.args.watch.now c.args.watch.now c.args.engine.now c.args.engine.now
    (map (seen g.R.Feed.remaining g.R.Feed.calls) c.args.ins.now) (map (seen g.R.Feed.remaining g.R.Feed.calls) c.read_headers.new.ins)
    c.read_headers.new.inputs.items 0 0
begins g c =
    shown_begun g.V.Watch.sees c.args.watch.now c.args.engine.now (map (seen g.R.Feed.remaining g.R.Feed.calls) c.args.ins.now)
    (map (seen g.R.Feed.remaining g.R.Feed.calls) c.read_headers.new.ins) c.read_headers.new.inputs.items
    (c.in_ok-read_headers.ensures.all ∙ sym (length-map c.args.ins.now (seen g.R.Feed.remaining g.R.Feed.calls))) c.in_ok-read_headers.ensures.ok
    c.read_headers.ensures.begun

pub returns-in_err-read_headers-clause-shown : goal.returns-in_err-read_headers-clause-shown
returns-in_err-read_headers-clause-shown g c =
    let gone = not_read g (goal.at.returns-in_err-read_headers-clause-shown g c).After-from_residual in
    rw gone (shown_header g.V.Watch.sees c.args.watch.now c.args.engine.now (map (seen g.R.Feed.remaining g.R.Feed.calls) c.args.ins.now)
    (map (seen g.R.Feed.remaining g.R.Feed.calls) c.read_headers.new.ins) c.in_err-read_headers.field-0.0 c.in_err-read_headers.ensures.err)

pub returns-in_err-put_headers-clause-shown : goal.returns-in_err-put_headers-clause-shown
returns-in_err-put_headers-clause-shown g c =
    let gone = not_written g (goal.at.returns-in_err-put_headers-clause-shown g c).After-from_residual-in_err-put_headers in
    rw gone (shown_unwritten g.V.Watch.sees c.args.watch.now c.args.engine.now _ _ _ _ _ _ c.in_err-put_headers.field-0.0
    (begins g (goal.at.returns-in_err-put_headers-clause-shown g c).In_ok-read_headers) c.in_err-put_headers.ensures.err)

pub returns-clause-shown : goal.returns-clause-shown
returns-clause-shown g c =
    let here : c.as_mut_slice.result.now ≡ c.read_headers.new.inputs.items = search rules in
    c.rounds.ensures.shown c.args.watch.now c.args.engine.now (map (seen g.R.Feed.remaining g.R.Feed.calls) c.args.ins.now)
    (rw here (begins g (goal.at.returns-clause-shown g c).In_ok-read_headers))

pub returns-clause-many : goal.returns-clause-many
returns-clause-many g c = grind (arith, common_steps)
