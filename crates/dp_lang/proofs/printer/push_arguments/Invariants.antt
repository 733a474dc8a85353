-- `push_arguments`: the operands so far are printed, and the rest is to come.
use Rattle.std.proofs.Common.{◌≡◌, [], ◌∷◌, ◌++◌, drop, map, string_bytes}
use Rattle.std.specs.Prelude.{encode_utf8}
use Rattle.dp_lang.specs.Views.{numbered}
use Rattle.dp_lang.proofs.Joins.{beyond}
use Rattle.dp_lang.proofs.printer.push_arguments.Given as goal

abbrev pub invariant-loop-argument : goal.invariant-loop-argument
invariant-loop-argument l = string_bytes l.out ++ beyond (encode_utf8 l.before) (map numbered (drop l.argument-index l.arguments)) ≡ string_bytes l.fn.out
    ++ beyond (32 ∷ []) (map numbered l.arguments)
