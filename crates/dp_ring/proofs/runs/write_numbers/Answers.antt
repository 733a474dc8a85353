-- One more number is written.
use Rattle.std.proofs.Common.{◌+◌, ◌*◌, ◌∙◌, ap, arith}
use Rattle.dp_region.specs.Region.{number_at}
use Rattle.dp_ring.proofs.Writing.{run_more}
use Rattle.dp_ring.proofs.runs.write_numbers.Goals as goal

pub loop-k-preserved : goal.loop-k-preserved
loop-k-preserved c j within =
    ap (λ b. number_at b (4 * (0 + j)) 4) c.write_number.ensures
    ∙ run_more c.loop-k.bytes c.args.numbers.now c.loop-k.k (omega arith) c.loop-k-test.true (c.type_inv.numbers c.loop-k.k).fits c.loop-k.invariant j within
