-- The first file of those that are left that is the output is that of all.
use Rattle.std.proofs.Common.{◌≡◌, drop}
use Rattle.std.specs.Prelude.{find}
use Rattle.dp_captures.specs.Guarding.{is_same_target, targets}
use Rattle.dp_captures.proofs.guard.add_output.Given as goal

abbrev pub invariant-loop-one : goal.invariant-loop-one
invariant-loop-one l =
    find (is_same_target l.target) (targets (drop l.one-index l.fn.kept.items)) ≡ find (is_same_target l.target) (targets l.fn.kept.items)
