-- `pass`: the count is that after the bytes that passed.
use Rattle.std.proofs.Common.{length, ◌-◌}
use Rattle.dp_pcap.proofs.Counting.{Passing}
use Rattle.dp_pcap.proofs.whole_records.WholeRecords.pass.Given as goal

abbrev pub invariant-loop-at : goal.invariant-loop-at
invariant-loop-at l = Passing l.initial.self l.self l.bytes l.at

abbrev pub decreases-loop-at : goal.decreases-loop-at
decreases-loop-at l = length l.initial.bytes - l.at
