-- `put_headers`: the headers so far, and that their writers are sound.
use Rattle.std.proofs.Common.{◌≡◌, false}
use Rattle.dp_pcap.specs.Text.{header_text}
use Rattle.dp_pipe.specs.Devices.{IsGiven, seen, Fared}
use Rattle.dp_pipe.proofs.Heading.{Changed}
use Rattle.dp_pipe.proofs.running.put_headers.Given as goal

abbrev pub invariant-loop-port : goal.invariant-loop-port
invariant-loop-port g l = Changed (λ w w'. IsGiven (seen g.W.Sink.contents g.W.Sink.calls w) (seen g.W.Sink.contents g.W.Sink.calls w') (header_text l.unit)
    × Fared g.W.Sink.is_broken g.W.Sink.failures false w w' × (g.W.Sink.is_broken w' ≡ false)) l.port l.fn.outs l.outs
