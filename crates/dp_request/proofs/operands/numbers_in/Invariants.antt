-- The numbers so far, and those of the words that are left, are those of all words.
use Rattle.std.proofs.Common.{◌≡◌, [], drop, map}
use Rattle.dp_request.specs.Operands.{ascending_from}
use Rattle.dp_request.proofs.Numbers.{Ascends}
use Rattle.dp_request.proofs.operands.numbers_in.Given as goal

abbrev pub invariant-loop-word : goal.invariant-loop-word
invariant-loop-word l = record {
  so_far : ascending_from l.last l.numbers.items (map (λ word. word.now) (drop l.word-index l.word-items))
      ≡ ascending_from 0 [] (map (λ word. word.now) l.word-items);
  ascends : Ascends 0 l.last l.numbers.items;
}
