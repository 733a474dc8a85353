-- One more line.
use Rattle.dp_counts.specs.Totals.{line_of_pool}
use Rattle.dp_counts.proofs.Lines.{says_line}
use Rattle.dp_counts.proofs.listing.say_pools.Goals as goal

pub loop-k-preserved : goal.loop-k-preserved
loop-k-preserved c =
    says_line c.args.out.now c.loop-k.out c.say.new.self (line_of_pool c.args.levels.now) c.first_eight-pools.result.now c.loop-k.k-counter _
    c.loop-k-test.true c.loop-k.invariant (rw c.min-least.ensures at c.say.ensures)
