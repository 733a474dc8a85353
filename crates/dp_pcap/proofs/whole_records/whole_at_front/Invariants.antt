-- The first n records are before this offset, and the next one ends at `next`.
use Rattle.std.proofs.Common.{◌-◌, ◌≤◌, length}
use Rattle.dp_pcap.proofs.Counting.{AreBefore, EndsAt}
use Rattle.dp_pcap.proofs.whole_records.whole_at_front.Given as goal

abbrev pub invariant-loop-next : goal.invariant-loop-next
invariant-loop-next l = record {
  within : l.at ≤ length l.bytes;
  few : l.count ≤ l.at;
  ends : EndsAt l.order l.bytes l.at l.next;
  before : AreBefore l.order l.count l.bytes l.at;
}

abbrev pub decreases-loop-next : goal.decreases-loop-next
decreases-loop-next l = length l.bytes - l.at
