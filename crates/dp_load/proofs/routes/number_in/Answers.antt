-- `number_in`: a number of few enough digits.
use Rattle.std.proofs.Common.{length, arith}
use Rattle.dp_load.proofs.Digits.{within}
use Rattle.dp_load.proofs.routes.number_in.Goals as goal

pub returns-then-are_digits-clause-below : goal.returns-then-are_digits-clause-below
returns-then-are_digits-clause-below c = within c.decimal.result (length c.args.digits.now) c.args.most c.decimal.ensures.below (omega arith)
