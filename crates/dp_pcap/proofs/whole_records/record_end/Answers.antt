-- Goals that the search alone does not find.
use Rattle.std.proofs.Common.{arith}
use Rattle.std.proofs.lemmas.Grind.{common_steps}
use Rattle.dp_pcap.proofs.whole_records.record_end.Goals as goal

pub returns : goal.returns
returns c = grind (arith, common_steps)
