use Rattle.std.proofs.Common.{arith}
use Rattle.dp_engine.proofs.Powers.{power_small}
use Rattle.dp_engine.proofs.needs.power_above.Goals as goal

pub returns-clause-bound : goal.returns-clause-bound
returns-clause-bound c =
    let power = c.next_power_of_two.ensures in
    power_small c.next_power_of_two.result power.power (omega (arith, power.upper_bound))
