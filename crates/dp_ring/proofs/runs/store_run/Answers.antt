-- The part of the zone is written over.
use Rattle.std.proofs.Common.{◌*◌, length, sym, subst, arith}
use Rattle.dp_ring.specs.Rings.{Stores}
use Rattle.dp_ring.proofs.Writing.{stores, written_over}
use Rattle.dp_ring.proofs.runs.store_run.Goals as goal

pub returns-clause-bytes : goal.returns-clause-bytes
returns-clause-bytes c =
    let old = c.args.zone.now.bytes in
    let ws = c.write_numbers.new.bytes in
    let long = c.write_numbers.ensures.long in
    subst (λ bs. Stores c.args.slot c.args.numbers.now old bs)
    (sym (written_over old c.bytes_mut.result.now (4 * c.args.slot) (4 * length c.args.numbers.now) ws c.bytes_mut.ensures.value (omega arith) long))
    (stores c.args.slot c.args.numbers.now old ws c.requires long c.write_numbers.ensures.run)
