-- Goals that the search alone does not find.
use Rattle.std.proofs.Common.{arith}
use Rattle.std.proofs.lemmas.Grind.{common_steps}
use Rattle.dp_request.proofs.reading.read_all_routes.Goals as goal

pub loop-one-preserved : goal.loop-one-preserved
loop-one-preserved g c = grind (arith, common_steps)

pub returns-clause-tables : goal.returns-clause-tables
returns-clause-tables g c = grind (arith, common_steps)
