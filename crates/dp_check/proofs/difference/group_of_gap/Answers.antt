-- Goals that the search alone does not find.
use Rattle.std.proofs.Common.{arith}
use Rattle.std.proofs.lemmas.Grind.{common_steps}
use Rattle.dp_check.proofs.difference.group_of_gap.Goals as goal

pub returns-in_err-packet-clause-none : goal.returns-in_err-packet-clause-none
returns-in_err-packet-clause-none c = grind (arith, common_steps)
