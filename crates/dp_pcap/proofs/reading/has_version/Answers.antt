-- `has_version`: the numbers stand where the code reads them.
use Rattle.std.proofs.Common.{rules}
use Rattle.dp_pcap.specs.Capture.{number}
use Rattle.dp_pcap.proofs.reading.has_version.Goals as goal

pub returns-then-short_number-eq-MAJOR : goal.returns-then-short_number-eq-MAJOR
unfolding number
returns-then-short_number-eq-MAJOR c = search rules

pub returns-else-short_number-eq-MAJOR : goal.returns-else-short_number-eq-MAJOR
unfolding number
returns-else-short_number-eq-MAJOR c = search rules
