use Rattle.std.proofs.Common.{◌≡◌, take}
use Rattle.dp_engine.proofs.engine.reporting.ring_reports.Given as goal

abbrev pub invariant-loop-n : goal.invariant-loop-n
invariant-loop-n l = l.rings.items ≡ take l.n-index l.left
