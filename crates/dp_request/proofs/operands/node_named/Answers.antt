-- Goals that the search alone does not find.
use Rattle.std.proofs.Common.{arith}
use Rattle.std.proofs.lemmas.Grind.{common_steps}
use Rattle.dp_request.proofs.operands.node_named.Goals as goal

pub returns-in-112-clause-spelled : goal.returns-in-112-clause-spelled
returns-in-112-clause-spelled c = grind (arith, common_steps)

pub returns-in-114-clause-spelled : goal.returns-in-114-clause-spelled
returns-in-114-clause-spelled c = grind (arith, common_steps)
