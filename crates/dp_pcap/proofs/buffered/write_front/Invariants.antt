-- `write_front` ends, since each turn writes some bytes, and what is written is in the writer.
use Rattle.std.proofs.Common.{◌-◌, ◌≤◌, length, take}
use Rattle.std.specs.Io.KnownBytes.{Appends}
use Rattle.dp_pcap.proofs.buffered.write_front.Given as goal

abbrev pub invariant-loop-written : goal.invariant-loop-written
invariant-loop-written g l = (l.written ≤ length l.bytes) × Appends (g.W.Write.contents l.initial.to) (g.W.Write.contents l.to) (take l.written l.bytes)

abbrev pub decreases-loop-written : goal.decreases-loop-written
decreases-loop-written g l = length l.bytes - l.written
