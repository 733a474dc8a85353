-- Goals that the search alone does not find.
use Rattle.std.proofs.Common.{arith}
use Rattle.std.proofs.lemmas.Grind.{common_steps}
use Rattle.dp_region.proofs.block.Block.part_mut.Goals as goal

pub slice_mut-requires-clause-in_bounds : goal.slice_mut-requires-clause-in_bounds
slice_mut-requires-clause-in_bounds c = grind (arith, common_steps)

pub invariant_of-self-lent : goal.invariant_of-self-lent
invariant_of-self-lent c = grind (arith, common_steps)
