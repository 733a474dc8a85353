-- The first port that is missing of the captures that are left is that of all.
use Rattle.std.proofs.Common.{◌≡◌, drop}
use Rattle.dp_captures.specs.Words.{missing_in}
use Rattle.dp_captures.proofs.words.missing_in.Given as goal

abbrev pub invariant-loop-one : goal.invariant-loop-one
invariant-loop-one l = missing_in l.ports (drop l.one-index l.given) ≡ missing_in l.ports l.given
