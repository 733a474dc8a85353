-- Each refusal follows the tests before it.
use Rattle.std.proofs.Common.{arith}
use Rattle.std.proofs.lemmas.Grind.{common_steps}
use Rattle.dp_zone.proofs.zones.Zones.refusal.Goals as goal

pub returns-then-not-is_power_of_two-clause-some : goal.returns-then-not-is_power_of_two-clause-some
returns-then-not-is_power_of_two-clause-some c = λ _. grind (arith, common_steps)

pub returns-then-has-clause-some : goal.returns-then-has-clause-some
returns-then-has-clause-some c = λ _. grind (arith, common_steps)

pub returns-then-len-eq-MAX_ZONES-clause-some : goal.returns-then-len-eq-MAX_ZONES-clause-some
returns-then-len-eq-MAX_ZONES-clause-some c = λ _. grind (arith, common_steps)
