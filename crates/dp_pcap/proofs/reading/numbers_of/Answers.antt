-- `numbers_of`: each number stands where the code reads it. `search` takes longer.
use Rattle.std.proofs.Common.{arith}
use Rattle.std.proofs.lemmas.Grind.{common_steps}
use Rattle.dp_pcap.specs.Capture.{number}
use Rattle.dp_pcap.proofs.reading.numbers_of.Goals as goal

pub returns-in-Little : goal.returns-in-Little
unfolding number
returns-in-Little c = grind (arith, common_steps)

pub returns-in-Big : goal.returns-in-Big
unfolding number
returns-in-Big c = grind (arith, common_steps)
