-- Goals that the search alone does not find.
use Rattle.std.proofs.Common.{arith}
use Rattle.std.proofs.lemmas.Grind.{common_steps}
use Rattle.dp_lang.proofs.printer.named_labels.Goals as goal

pub index_mut-requires : goal.index_mut-requires
index_mut-requires c = grind (arith, common_steps)

pub loop-instr-preserved : goal.loop-instr-preserved
loop-instr-preserved c = grind (arith, common_steps)
