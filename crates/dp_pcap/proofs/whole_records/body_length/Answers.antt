-- `body_length`: the number stands where the code reads it.
use Rattle.std.proofs.Common.{rules}
use Rattle.dp_pcap.specs.Capture.{number}
use Rattle.dp_pcap.proofs.whole_records.body_length.Goals as goal

pub returns : goal.returns
unfolding number
returns c = search rules
