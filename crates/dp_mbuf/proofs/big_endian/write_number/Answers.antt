-- Goals that the search alone does not find.
use Rattle.std.proofs.Common.{arith}
use Rattle.std.proofs.lemmas.Grind.{common_steps}
use Rattle.dp_mbuf.proofs.big_endian.write_number.Goals as goal

pub returns-in-Eight : goal.returns-in-Eight
returns-in-Eight c = grind (arith, common_steps)
