-- `each_argument`: the operands so far, and the rest of the parts.
use Rattle.std.proofs.Common.{◌≡◌, drop, map}
use Rattle.dp_lang.specs.Reading.{each_argument}
use Rattle.dp_lang.specs.Views.{argument}
use Rattle.dp_lang.proofs.Loops.{noting, prepend}
use Rattle.dp_lang.proofs.reader.each_argument.Given as goal

abbrev pub invariant-loop-i : goal.invariant-loop-i
invariant-loop-i l = noting l.fault (prepend (map argument l.arguments.items) (each_argument (drop l.i l.kinds) (map (λ part. part.now) (drop l.i l.parts))))
    ≡ each_argument l.kinds (map (λ part. part.now) l.parts)
