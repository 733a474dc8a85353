-- The files so far.
use Rattle.std.proofs.Common.{◌≡◌, ◌++◌, map, take}
use Rattle.dp_captures.specs.Guarding.{read_target, targets}
use Rattle.dp_captures.proofs.guard.keep_reads.Given as goal

abbrev pub invariant-loop-read : goal.invariant-loop-read
invariant-loop-read l = targets l.kept.items ≡ targets l.initial.kept.items ++ map read_target (take l.read-index l.reads)
