-- Each number is above the one before.
use Rattle.std.proofs.Common.{arith, sym}
use Rattle.std.proofs.lemmas.Grind.{common_steps}
use Rattle.dp_request.proofs.Numbers.{ascending, ascends_more, one_more}
use Rattle.dp_request.proofs.operands.numbers_in.Goals as goal

pub loop-word-preserved : goal.loop-word-preserved
loop-word-preserved c = record {
  so_far = rw (c.in_ok-push-in-Some.ensures.items) (one_more c.as_slice-word-items.result.now c.loop-word.word-index _ _ _ _ _ c.loop-word-test.true
      (sym c.in-Some.ensures) c.if-number-last.true c.loop-word.invariant.so_far);
  ascends = rw (c.in_ok-push-in-Some.ensures.items) (ascends_more _ _ _ _ c.loop-word.invariant.ascends c.if-number-last.true);
}

pub returns-clause-ascending : goal.returns-clause-ascending
returns-clause-ascending c = ascending 0 c.loop-word.last c.loop-word.numbers.items c.loop-word.invariant.ascends

pub returns-in_default-clause-numbers : goal.returns-in_default-clause-numbers
returns-in_default-clause-numbers c = grind (arith, common_steps)
