-- The sum so far.
use Rattle.std.specs.Prelude.{◌≡◌, sum_by, take}
use Rattle.dp_model.specs.Arithmetic.{wrapped}
use Rattle.dp_counts.specs.Totals.{share_of_node}
use Rattle.dp_counts.proofs.listing.total_of.Given as goal

abbrev pub invariant-loop-source : goal.invariant-loop-source
invariant-loop-source l = l.sum ≡ wrapped (sum_by (share_of_node l.counts l.total) (take l.source-index l.sources))
