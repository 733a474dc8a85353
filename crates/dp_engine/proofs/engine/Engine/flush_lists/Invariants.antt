use Rattle.std.proofs.Common.{◌≡◌}
use Rattle.dp_engine.proofs.Emptied.{dropped_to}
use Rattle.dp_engine.proofs.engine.Engine.flush_lists.Given as goal

abbrev pub invariant-loop-port : goal.invariant-loop-port
invariant-loop-port g l = l.self ≡ dropped_to l.port l.fn.self
