-- `write_again`: a failed write appends nothing.
use Rattle.std.specs.Io.KnownBytes.{Keeps}
use Rattle.dp_pcap.proofs.buffered.write_again.Given as goal

abbrev pub invariant-loop : goal.invariant-loop
invariant-loop g l = Keeps (g.W.Write.contents l.initial.to) (g.W.Write.contents l.to)
