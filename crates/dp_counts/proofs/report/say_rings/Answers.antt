-- One more line.
use Rattle.dp_counts.specs.Report.{ring_line}
use Rattle.dp_counts.proofs.Lines.{says_line}
use Rattle.dp_counts.proofs.report.say_rings.Goals as goal

pub loop-k-preserved : goal.loop-k-preserved
loop-k-preserved c =
    says_line c.args.out.now c.loop-k.out c.say.new.self ring_line c.args.rings.now c.loop-k.k-counter 0 c.loop-k-test.true c.loop-k.invariant
    c.say.ensures
