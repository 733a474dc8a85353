-- The captures so far, and those of the words that are left, are those of all words.
use Rattle.std.proofs.Common.{◌≡◌, drop, map}
use Rattle.dp_captures.specs.Words.{row_of, rows_from}
use Rattle.dp_captures.proofs.words.add_words.Given as goal

abbrev pub invariant-loop-word : goal.invariant-loop-word
invariant-loop-word l =
    rows_from l.form (map row_of l.given.items) (map (λ word. word.now) (drop l.word-index l.words)) ≡ rows_from l.form (map row_of l.fn.earlier.items)
    (map (λ word. word.now) l.words)
