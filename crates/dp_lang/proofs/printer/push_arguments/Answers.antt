-- `push_arguments`: one operand more, and the end.
use Rattle.std.proofs.Common.{◌≡◌, map, drop, [], ◌∙◌, sym, append-nil, string_bytes}
use Rattle.std.proofs.lemmas.List.{drop_all}
use Rattle.dp_lang.specs.Views.{numbered}
use Rattle.dp_lang.proofs.Joins.{arguments_text-beyond}
use Rattle.dp_lang.proofs.printer.push_arguments.Goals as goal

pub returns : goal.returns
returns c =
    let done : drop c.loop-argument.argument-index c.args.arguments.now ≡ [] = drop_all _ _ c.loop-argument-test.false in
    rw (arguments_text-beyond (map numbered c.args.arguments.now)) (sym (append-nil (string_bytes c.loop-argument.out))
    ∙ (rw done at c.loop-argument.invariant))
