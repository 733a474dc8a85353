-- Each clause is a lemma.
use Rattle.std.proofs.Common.{arith}
use Rattle.dp_model.proofs.Numbers.{ones_least, spelled_low, stored_loaded}
use Rattle.dp_model.specs.Laws.Calculations.{ones_are, ones_enough}
use Rattle.dp_model.proofs.definition_laws.numbers_are_as_called.Goals as goal

pub returns : goal.returns
returns c = record {
  ones = λ n. ones_are n n;
  enough = λ n. ones_enough n n (omega arith);
  least = λ n j le. ones_least n n j le;
  spelling = spelled_low;
  stores = stored_loaded;
}
