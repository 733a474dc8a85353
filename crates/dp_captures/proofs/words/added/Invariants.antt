-- The first clash of the captures that are left is that of all.
use Rattle.std.proofs.Common.{◌≡◌, drop, map}
use Rattle.std.specs.Prelude.{find}
use Rattle.dp_captures.specs.Words.{clashes, row_of}
use Rattle.dp_captures.proofs.words.added.Given as goal

abbrev pub invariant-loop-other : goal.invariant-loop-other
invariant-loop-other l =
    find (λ other. clashes other (row_of l.one)) (map row_of (drop l.other-index l.earlier)) ≡ find (λ other. clashes other (row_of l.one))
    (map row_of l.earlier)
