-- One more fact is read from its eleven bytes.
use Rattle.std.proofs.Common.{arith}
use Rattle.std.proofs.Math.ListN.{length-set}
use Rattle.dp_cert.specs.Reading.{fact_in, facts_in}
use Rattle.dp_cert.proofs.Parts.{parts_more, parts_done}
use Rattle.dp_cert.proofs.parsing.facts_in.Goals as goal

pub loop-i-preserved : goal.loop-i-preserved
loop-i-preserved c = record {
  told = parts_more fact_in 11 8 c.args.bytes.now c.loop-i.facts c.loop-i.i c.fact_in.result _ c.loop-i-test.true (omega (arith, c.loop-i.invariant.eight))
      c.fact_in.ensures c.loop-i.invariant.told;
  eight = simp length-set c.loop-i.invariant.eight;
}

pub returns : goal.returns
unfolding facts_in
returns c = parts_done fact_in 11 8 c.args.bytes.now c.loop-i.facts c.loop-i.i _ (omega arith) (omega arith) c.loop-i.invariant.eight c.loop-i.invariant.told
