use Rattle.std.proofs.Common.{◌≡◌, ◌≤◌, take}
use Rattle.dp_engine.specs.Tallies.{refused_of}
use Rattle.dp_engine.proofs.engine.reporting.reached.Given as goal

abbrev pub invariant-loop-n : goal.invariant-loop-n
invariant-loop-n l = (l.count ≡ refused_of (take l.n-index l.pattern) l.calls) × (l.count ≤ l.n-index)
