-- The tables so far, and those of the words that are left, are those of all words.
use Rattle.std.proofs.Common.{◌≡◌, [], drop, map}
use Rattle.dp_request.specs.Operands.{tables_from}
use Rattle.dp_request.proofs.reading.named_by.Given as goal

abbrev pub invariant-loop-word : goal.invariant-loop-word
invariant-loop-word g l =
    tables_from (map (λ one. one.table) l.named.items) (map (λ word. word.now) (drop l.word-index l.words)) ≡ tables_from [] (map (λ word. word.now) l.words)
