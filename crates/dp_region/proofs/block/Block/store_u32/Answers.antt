-- Goals that the search alone does not find.
use Rattle.std.proofs.Common.{arith}
use Rattle.std.proofs.lemmas.Grind.{common_steps}
use Rattle.dp_region.proofs.block.Block.store_u32.Goals as goal

pub returns-clause-stored : goal.returns-clause-stored
returns-clause-stored c = grind (arith, common_steps)

pub returns-clause-long : goal.returns-clause-long
returns-clause-long c = grind (arith, common_steps)

pub invariant_of-self : goal.invariant_of-self
invariant_of-self c = grind (arith, common_steps)

pub slice_bounds-write_u32-end : goal.slice_bounds-write_u32-end
slice_bounds-write_u32-end c = grind (arith, common_steps)
