-- Whether one of the outputs that are left is standard output.
use Rattle.std.proofs.Common.{◌≡◌, drop}
use Rattle.std.specs.List.{list_any}
use Rattle.dp_captures.specs.Words.{is_stream}
use Rattle.dp_captures.proofs.words.Replacements.take_stdout.Given as goal

abbrev pub invariant-loop-one : goal.invariant-loop-one
invariant-loop-one l = list_any (λ one. is_stream one.place) (drop l.one-index l.self.outputs.items) ≡ list_any (λ one. is_stream one.place)
    l.self.outputs.items
