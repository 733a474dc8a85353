-- The sum so far.
use Rattle.std.specs.Prelude.{◌≡◌, sum_by, take}
use Rattle.dp_model.specs.Arithmetic.{wrapped}
use Rattle.dp_counts.specs.Totals.{share_of_line}
use Rattle.dp_counts.proofs.listing.share_of_node.Given as goal

abbrev pub invariant-loop-line : goal.invariant-loop-line
invariant-loop-line l = l.sum ≡ wrapped (sum_by (share_of_line l.counts l.total l.source.node) (take l.line-index l.source.lines.items))
