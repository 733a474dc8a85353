use Rattle.std.proofs.Common.{◌≡◌}
use Rattle.dp_engine.proofs.Emptied.{left_to}
use Rattle.dp_engine.proofs.engine.Engine.flush_rings.Given as goal

abbrev pub invariant-loop-ring : goal.invariant-loop-ring
invariant-loop-ring g l = l.self ≡ left_to l.ring l.fn.self
