-- The lines so far were said.
use Rattle.std.proofs.Common.{take, Some}
use Rattle.dp_console.specs.Replies.{Says}
use Rattle.dp_counts.specs.Listings.{lines_text}
use Rattle.dp_counts.proofs.listing.say_lines.Given as goal

abbrev pub invariant-loop-line : goal.invariant-loop-line
invariant-loop-line l = Says l.initial.out l.out (Some (lines_text l.counts l.source.node (take l.line-index l.source.lines.items)))
