-- Goals that the search alone does not find.
use Rattle.std.proofs.Common.{arith}
use Rattle.std.proofs.lemmas.Grind.{common_steps}
use Rattle.dp_check.proofs.requirements.check_bytes.Goals as goal

pub returns-clause-says : goal.returns-clause-says
returns-clause-says c = grind (arith, common_steps)
