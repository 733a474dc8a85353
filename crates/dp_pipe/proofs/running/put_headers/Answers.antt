-- `put_headers`: one more header, and the first that is not written.
use Rattle.std.proofs.Common.{rules, ◌<◌, arith, length, slice_index_or}
use Rattle.std.specs.Prelude.{Err, ⊤}
use Rattle.std.proofs.lemmas.Bool.{ne_eqb}
use Rattle.dp_pipe.specs.declared.forwarding.RunCause.TheVariants.{Out}
use Rattle.dp_pipe.specs.Devices.{IsGiven, seen, failed_writer}
use Rattle.std.proofs.lemmas.Option.{slice_get-get_or}
use Rattle.dp_pcap.specs.Text.{header_text}
use Rattle.dp_pipe.proofs.Giving.{length_header}
use Rattle.dp_pipe.proofs.Heading.{changed_more, all_changed, in_answers, new_all, headers_stopped}
use Rattle.dp_pipe.proofs.Faring.{fared_well, failed_here, all_well, one_then}
use Rattle.dp_pipe.proofs.running.put_headers.Goals as goal

pub loop-port-preserved : goal.loop-port-preserved
loop-port-preserved g c =
    let within : c.loop-port.port < length c.loop-port.outs = omega (arith, c.loop-port-test.true, c.loop-port.invariant.many) in
    changed_more c.put_header.new.w c.loop-port.invariant
    (slice_get-get_or c.loop-port.outs c.loop-port.port c.index-outs-port.result within) (
      record { grown = search rules; calls = omega (arith, c.put_header.ensures.counted, length_header c.args.unit) },
      fared_well g.W.Sink.is_broken g.W.Sink.failures (slice_index_or c.loop-port.outs c.loop-port.port c.index-outs-port.result) c.put_header.new.w
          (search rules) (search rules) (search rules),
      search rules,
    )

pub returns-clause-ok : goal.returns-clause-ok
returns-clause-ok g c = λ q old new e e'. in_answers (seen g.W.Sink.contents g.W.Sink.calls) (λ a a'. IsGiven a a' (header_text c.args.unit)) c.args.outs.now
    c.loop-port.outs q
    (λ w w' here there. (all_changed c.loop-port.invariant
    (omega (arith, c.loop-port-test.false, c.loop-port.auto.port-end)) q w w' here there).0) old new e e'

pub returns-clause-sound : goal.returns-clause-sound
returns-clause-sound g c = λ ok. new_all _ c.loop-port.invariant
    (omega (arith, c.loop-port-test.false, c.loop-port.auto.port-end)) (λ w w' (given, well, sound). sound)

pub returns-clause-fared : goal.returns-clause-fared
returns-clause-fared g c = all_well g.W.Sink.is_broken g.W.Sink.failures _ c.loop-port.port c.args.outs.now c.loop-port.outs c.loop-port.invariant
    (λ w w' (given, well, sound). well)

pub returns-then-is_err-clause-err : goal.returns-then-is_err-clause-err
returns-then-is_err-clause-err g c =
    let within : c.loop-port.port < length c.loop-port.outs = omega (arith, c.loop-port-test.true, c.loop-port.invariant.many) in
    headers_stopped (seen g.W.Sink.contents g.W.Sink.calls) c.args.unit c.put_header.new.w c.loop-port.invariant (λ x x' changed. changed.0)
    (slice_get-get_or c.loop-port.outs c.loop-port.port c.index-outs-port.result within)
    (record { grown = search rules; calls = omega (arith, c.put_header.ensures.counted, length_header c.args.unit) })

pub returns-then-is_err-clause-fared : goal.returns-then-is_err-clause-fared
returns-then-is_err-clause-fared g c =
    let within : c.loop-port.port < length c.loop-port.outs = omega (arith, c.loop-port-test.true, c.loop-port.invariant.many) in
    let w = slice_index_or c.loop-port.outs c.loop-port.port c.index-outs-port.result in
    one_then g.W.Sink.is_broken g.W.Sink.failures (failed_writer {A = ⊤} (Err (Out c.loop-port.port))) c.loop-port.port c.args.outs.now c.loop-port.outs w
    c.put_header.new.w c.loop-port.invariant.many
    (all_well g.W.Sink.is_broken g.W.Sink.failures _ c.loop-port.port c.args.outs.now c.loop-port.outs c.loop-port.invariant (λ x x' changed. changed.1))
    (slice_get-get_or c.loop-port.outs c.loop-port.port c.index-outs-port.result within)
    (failed_here g.W.Sink.is_broken g.W.Sink.failures c.loop-port.port w c.put_header.new.w (search rules) (search rules))
    (λ q other. ne_eqb q c.loop-port.port other)
