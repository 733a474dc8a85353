-- `label`: the label of all operands is that of the rest.
use Rattle.std.proofs.Common.{◌≡◌, drop}
use Rattle.dp_lang.specs.Views.{label_in}
use Rattle.dp_lang.proofs.argument.Arguments.label.Given as goal

abbrev pub invariant-loop-argument : goal.invariant-loop-argument
invariant-loop-argument l = label_in (drop l.argument-index l.argument-items) ≡ label_in l.argument-items
