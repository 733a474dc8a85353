use Rattle.std.proofs.Common.{◌≤◌}
use Rattle.dp_engine.proofs.Firsts.{first_slot}
use Rattle.dp_engine.proofs.queues.first_from.Given as goal

abbrev pub invariant-loop-k : goal.invariant-loop-k
invariant-loop-k l = l.k ≤ first_slot l.rings
