-- If the outputs that are left are apart, all are.
use Rattle.std.proofs.Common.{map, drop}
use Rattle.dp_captures.specs.Guarding.{AreApart, output_target, targets}
use Rattle.dp_captures.proofs.guard.refuse_open.Given as goal

abbrev pub invariant-loop-port : goal.invariant-loop-port
invariant-loop-port g l =
    AreApart (targets l.kept.items) (map output_target (drop l.port l.outputs)) → AreApart (targets l.initial.kept.items) (map output_target l.outputs)
