-- The programs so far were said.
use Rattle.std.proofs.Common.{take, Some}
use Rattle.dp_console.specs.Replies.{Says}
use Rattle.dp_counts.specs.Listings.{programs_text}
use Rattle.dp_counts.proofs.listing.say_programs.Given as goal

abbrev pub invariant-loop-source : goal.invariant-loop-source
invariant-loop-source l = Says l.initial.out l.out (Some (programs_text l.counts (take l.source-index l.sources)))
