-- Goals that the search alone does not find.
use Rattle.std.proofs.Common.{arith}
use Rattle.std.proofs.lemmas.Grind.{common_steps}
use Rattle.dp_check.proofs.diagnosis.entry_reason.Goals as goal

pub returns-then-entails-clause-none : goal.returns-then-entails-clause-none
returns-then-entails-clause-none c = grind (arith, common_steps)

pub returns-else-entails-clause-fails : goal.returns-else-entails-clause-fails
returns-else-entails-clause-fails c = grind (arith, common_steps)

pub returns-else-entails-clause-says : goal.returns-else-entails-clause-says
returns-else-entails-clause-says c = grind (arith, common_steps)
