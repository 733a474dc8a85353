-- `copy`: each way in which it ends.
use Rattle.std.proofs.Common.{rules}
use Rattle.std.proofs.lemmas.Result.{err_from_is_err_and}
use Rattle.layers_tests.proofs.Copying.{went_on, write_failed, header_failed, read_failed}
use Rattle.layers_tests.proofs.copies.copy.Goals as goal

pub returns-in_err-put_header-clause-copied : goal.returns-in_err-put_header-clause-copied
returns-in_err-put_header-clause-copied g c =
    let p = err_from_is_err_and c.from_residual-in_err-put_header.result c.from_residual-in_err-put_header.ensures.1 in
    rw (p.1, p.2, c.in_err-put_header.ensures.write)
    (header_failed _ _ _ _ c.in_ok-source.source c.unit-unit.result c.in_ok-source.ensures.answer (search rules) c.in_err-put_header.ensures.err)

pub returns-in_err-time-clause-copied : goal.returns-in_err-time-clause-copied
returns-in_err-time-clause-copied g c =
    let p = err_from_is_err_and c.from_residual-in_err-time.result c.from_residual-in_err-time.ensures.1 in
    rw (p.1, p.2)
    (read_failed _ _ _ _ _ c.loop-time.source c.next_record.new.source c.unit-unit.result c.next_record.new.buf c.in_err-time.field-0.0
    c.loop-time.invariant.going
    (c.in_err-time.ensures.continues c.loop-time.invariant.going.is_open) c.in_err-time.ensures.in_range)

pub loop-time-preserved : goal.loop-time-preserved
loop-time-preserved g c = record {
  going = went_on _ _ _ _ _ _ c.loop-time.source c.next_record.new.source c.unit-unit.result c.next_record.new.buf c.in-Record.time c.in-Record.len
      c.loop-time.invariant.going (rw c.in-Record.is at (c.in_ok-time.ensures.continues c.loop-time.invariant.going.is_open))
      (rw c.in-Record.is at c.in_ok-time.ensures.source) c.in_ok-put_record-in-Record.ensures.ok;
  sound = search rules;
  pulls = search rules;
  pushes = search rules;
}

pub returns-in_err-put_record-in-Record-clause-copied : goal.returns-in_err-put_record-in-Record-clause-copied
returns-in_err-put_record-in-Record-clause-copied g c =
    let p = err_from_is_err_and c.from_residual-in_err-put_record-in-Record.result c.from_residual-in_err-put_record-in-Record.ensures.1 in
    rw (p.1, p.2, c.in_err-put_record-in-Record.ensures.write)
    (write_failed _ _ _ _ _ _ c.loop-time.source c.next_record.new.source c.unit-unit.result c.next_record.new.buf c.in-Record.time c.in-Record.len
    c.loop-time.invariant.going
    (rw c.in-Record.is at (c.in_ok-time.ensures.continues c.loop-time.invariant.going.is_open)) (rw c.in-Record.is at c.in_ok-time.ensures.source)
    c.in_err-put_record-in-Record.ensures.err)
