-- Goals that the search alone does not find.
use Rattle.std.proofs.Common.{arith}
use Rattle.std.proofs.lemmas.Grind.{common_steps}
use Rattle.dp_infer.proofs.Infers.{begun_well_formed}
use Rattle.dp_infer.proofs.inferring.found_rows.Goals as goal

pub entry_row-requires : goal.entry_row-requires
entry_row-requires c = grind (arith, common_steps, begun_well_formed)

pub spread-requires-clause-same_length : goal.spread-requires-clause-same_length
spread-requires-clause-same_length c = grind (arith, common_steps, begun_well_formed)

pub returns-clause-well_formed : goal.returns-clause-well_formed
returns-clause-well_formed c = grind (arith, common_steps, begun_well_formed)

pub returns-clause-found : goal.returns-clause-found
returns-clause-found c = grind (arith, common_steps, begun_well_formed)
