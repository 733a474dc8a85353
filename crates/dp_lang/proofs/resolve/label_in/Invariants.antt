-- `label_in`: the label of all operands is that of the rest.
use Rattle.std.proofs.Common.{◌≡◌, drop}
use Rattle.dp_lang.specs.Fields.{label_in}
use Rattle.dp_lang.specs.Reading.{target_in}
use Rattle.dp_lang.specs.Sources as view
use Rattle.dp_lang.proofs.resolve.label_in.Given as goal

abbrev pub invariant-loop-argument : goal.invariant-loop-argument
invariant-loop-argument l = label_in (target_in (view.source l.source)) (drop l.argument-index l.arguments)
    ≡ label_in (target_in (view.source l.source)) l.arguments
