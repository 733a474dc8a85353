-- One more line.
use Rattle.dp_counts.specs.Report.{pool_line}
use Rattle.dp_counts.proofs.Lines.{says_line}
use Rattle.dp_counts.proofs.report.say_pools.Goals as goal

pub loop-k-preserved : goal.loop-k-preserved
loop-k-preserved c =
    says_line c.args.out.now c.loop-k.out c.say.new.self pool_line c.args.pools.now c.loop-k.k-counter (record { free = 0; count = 0 })
    c.loop-k-test.true c.loop-k.invariant c.say.ensures
