-- `read_headers`: one more header, and the first at fault.
use Rattle.std.proofs.Common.{rules, ◌<◌, ◌+◌, sym, arith, length, slice_index_or, subst}
use Rattle.std.specs.Prelude.{Err, ⊤}
use Rattle.std.proofs.lemmas.Option.{slice_get-get_or}
use Rattle.dp_pipe.specs.declared.forwarding.RunCause.TheVariants.{In}
use Rattle.dp_pipe.specs.Devices.{seen, failed_reader}
use Rattle.dp_pipe.proofs.Faring.{fared_well, all_well, one_then, refused, not_other}
use Rattle.dp_pipe.proofs.Heading.{ReadFirst, read_more, all_progress, new_all, header_fault}
use Rattle.dp_pipe.proofs.running.read_headers.Goals as goal

pub loop-port-preserved : goal.loop-port-preserved
loop-port-preserved g c =
    let within : c.loop-port.port < length c.loop-port.ins = omega (arith, c.loop-port-test.true, c.loop-port.invariant.read.changed.many) in
    record {
      read = subst (ReadFirst (seen g.R.Feed.remaining g.R.Feed.calls) g.R.Feed.failures g.R.Feed.is_broken (c.loop-port.port + 1) c.args.ins.now _)
          (sym c.keep.ensures.items)
          (read_more c.read_header.new.r _ c.loop-port.invariant.read (slice_get-get_or c.loop-port.ins c.loop-port.port c.index-ins-port.result within)
          (fared_well g.R.Feed.is_broken g.R.Feed.failures (slice_index_or c.loop-port.ins c.loop-port.port c.index-ins-port.result) c.read_header.new.r
          (search rules) (search rules) (search rules)) (search rules) (search rules)
          (record { has = search rules; calls = c.read_header.ensures.counted }));
      len = omega (arith, c.keep.ensures.len, c.loop-port.invariant.len);
      room = omega (arith, c.keep.ensures.capacity, c.loop-port.invariant.room);
    }

pub returns-clause-ok : goal.returns-clause-ok
returns-clause-ok g c = all_progress c.loop-port.invariant.read

pub returns-clause-sound : goal.returns-clause-sound
returns-clause-sound g c = λ ok. new_all _ c.loop-port.invariant.read.changed
    (omega (arith, c.loop-port-test.false, c.loop-port.auto.port-end)) (λ r r' changed. changed.1)

pub returns-in-Err-clause-err : goal.returns-in-Err-clause-err
returns-in-Err-clause-err g c =
    let within : c.loop-port.port < length c.loop-port.ins = omega (arith, c.loop-port-test.true, c.loop-port.invariant.read.changed.many) in
    header_fault c.read_header.new.r c.in-Err.error c.loop-port.invariant.read
    (slice_get-get_or c.loop-port.ins c.loop-port.port c.index-ins-port.result within)
    (record { answers = c.in-Err.ensures.answer; calls = c.read_header.ensures.counted })

pub returns-clause-most : goal.returns-clause-most
returns-clause-most g c = omega (arith, c.loop-port.invariant.read.many, c.loop-port.auto.port-end)

pub returns-in-Err-clause-most : goal.returns-in-Err-clause-most
returns-in-Err-clause-most g c = omega (arith, c.loop-port.invariant.read.many, c.loop-port-test.true, c.loop-port.invariant.read.changed.many)

pub returns-clause-fared : goal.returns-clause-fared
returns-clause-fared g c = all_well g.R.Feed.is_broken g.R.Feed.failures _ c.loop-port.port c.args.ins.now c.loop-port.ins c.loop-port.invariant.read.changed
    (λ r r' changed. changed.0)

pub returns-in-Err-clause-fared : goal.returns-in-Err-clause-fared
returns-in-Err-clause-fared g c =
    let within : c.loop-port.port < length c.loop-port.ins = omega (arith, c.loop-port-test.true, c.loop-port.invariant.read.changed.many) in
    let r = slice_index_or c.loop-port.ins c.loop-port.port c.index-ins-port.result in
    one_then g.R.Feed.is_broken g.R.Feed.failures (failed_reader {A = ⊤} (Err (In c.loop-port.port c.in-Err.error))) c.loop-port.port c.args.ins.now
    c.loop-port.ins r c.read_header.new.r c.loop-port.invariant.read.changed.many
    (all_well g.R.Feed.is_broken g.R.Feed.failures _ c.loop-port.port c.args.ins.now c.loop-port.ins c.loop-port.invariant.read.changed
    (λ x x' changed. changed.0)) (slice_get-get_or c.loop-port.ins c.loop-port.port c.index-ins-port.result within)
    (refused g.R.Feed.is_broken g.R.Feed.failures c.read_header.result c.in-Err.error c.loop-port.port r c.read_header.new.r c.in-Err.is
    c.read_header.ensures.failed c.read_header.ensures.stays c.read_header.ensures.failures)
    (λ q other. not_other c.in-Err.error c.loop-port.port q other)
