-- `named_labels`: a mark for each label of the instructions so far.
use Rattle.dp_lang.proofs.Labelled.{AreNamed}
use Rattle.dp_lang.proofs.printer.named_labels.Given as goal

abbrev pub invariant-loop-instr : goal.invariant-loop-instr
invariant-loop-instr l = AreNamed l.instrs l.instr-index l.named.items
