-- Goals that the search alone does not find.
use Rattle.std.proofs.Common.{arith}
use Rattle.std.proofs.lemmas.Grind.{common_steps}
use Rattle.dp_lang.specs.Reading.{statement_of}
use Rattle.dp_lang.proofs.reader.statement_in.Goals as goal

pub returns-in_err-arguments-clause-read : goal.returns-in_err-arguments-clause-read
unfolding statement_of
returns-in_err-arguments-clause-read c = grind (arith, common_steps)

pub returns-clause-read : goal.returns-clause-read
unfolding statement_of
returns-clause-read c = grind (arith, common_steps)
