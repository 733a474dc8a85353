-- One more line.
use Rattle.dp_counts.specs.Totals.{line_of_ring}
use Rattle.dp_counts.proofs.Lines.{says_line}
use Rattle.dp_counts.proofs.listing.say_rings.Goals as goal

pub loop-k-preserved : goal.loop-k-preserved
loop-k-preserved c =
    says_line c.args.out.now c.loop-k.out c.say.new.self (line_of_ring c.args.counts.now c.args.levels.now c.args.sources.now)
    c.first_eight-rings.result.now c.loop-k.k-counter _ c.loop-k-test.true c.loop-k.invariant
    (rw (c.total_of-full.ensures, c.saturating_sub-most.ensures) at c.say.ensures)
