-- Goals that the search alone does not find.
use Rattle.std.proofs.Common.{arith}
use Rattle.std.proofs.lemmas.Grind.{common_steps}
use Rattle.dp_lang.specs.Reading.{line_of}
use Rattle.dp_lang.proofs.reader.add_line.Goals as goal

pub returns-in_err-statement : goal.returns-in_err-statement
unfolding line_of
returns-in_err-statement c = grind (arith, common_steps)

pub returns-then-len-eq-MAX_INSTRS : goal.returns-then-len-eq-MAX_INSTRS
unfolding line_of
returns-then-len-eq-MAX_INSTRS c = grind (arith, common_steps)

pub returns : goal.returns
unfolding line_of
returns c = grind (arith, common_steps)
