-- One more bound is read from its eight bytes.
use Rattle.std.proofs.Common.{arith}
use Rattle.std.proofs.Math.ListN.{length-set}
use Rattle.dp_cert.specs.Reading.{bound_in, bounds_in}
use Rattle.dp_cert.proofs.Parts.{parts_more, parts_done}
use Rattle.dp_cert.proofs.parsing.bounds_in.Goals as goal

pub loop-i-preserved : goal.loop-i-preserved
loop-i-preserved c = record {
  told = parts_more bound_in 8 8 c.args.bytes.now c.loop-i.bounds c.loop-i.i c.bound_in.result _ c.loop-i-test.true (omega (arith, c.loop-i.invariant.eight))
      c.bound_in.ensures c.loop-i.invariant.told;
  eight = simp length-set c.loop-i.invariant.eight;
}

pub returns : goal.returns
unfolding bounds_in
returns c = parts_done bound_in 8 8 c.args.bytes.now c.loop-i.bounds c.loop-i.i _ (omega arith) (omega arith) c.loop-i.invariant.eight c.loop-i.invariant.told
