use Rattle.std.proofs.Common.{length, ap, arith}
use Rattle.dp_engine.proofs.Slots.{at_most}
use Rattle.dp_engine.proofs.rings.Rings.len.Goals as goal

pub returns-clause-bound : goal.returns-clause-bound
returns-clause-bound c = omega (arith, c.self.invariant.1, at_most _ _ c.self.view_is c.self.invariant.0, ap length c.self.view_is)
