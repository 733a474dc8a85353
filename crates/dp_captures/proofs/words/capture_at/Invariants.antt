-- The capture of the port among those that are left is that among all.
use Rattle.std.proofs.Common.{◌≡◌, drop}
use Rattle.dp_captures.specs.Words.{capture_at}
use Rattle.dp_captures.proofs.words.capture_at.Given as goal

abbrev pub invariant-loop-one : goal.invariant-loop-one
invariant-loop-one l = capture_at (drop l.one-index l.given) l.port l.name ≡ capture_at l.given l.port l.name
