-- Goals that the search alone does not find.
use Rattle.std.proofs.Common.{arith}
use Rattle.std.proofs.lemmas.Grind.{common_steps}
use Rattle.dp_mbuf.proofs.steps.release_only.Goals as goal

pub drop_one_of-requires-clause-object : goal.drop_one_of-requires-clause-object
drop_one_of-requires-clause-object c = grind (arith, common_steps)

pub drop_reference-requires-clause-object : goal.drop_reference-requires-clause-object
drop_reference-requires-clause-object c = grind (arith, common_steps)
