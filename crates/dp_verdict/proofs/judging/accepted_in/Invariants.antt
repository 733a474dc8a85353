-- The nodes so far.
use Rattle.std.proofs.Common.{◌≡◌, map, take}
use Rattle.dp_verdict.specs.Checks.{accepted}
use Rattle.dp_verdict.proofs.judging.accepted_in.Given as goal

abbrev pub invariant-loop-k : goal.invariant-loop-k
invariant-loop-k l = l.nodes.items ≡ map accepted (take l.k l.pipeline.nodes)
