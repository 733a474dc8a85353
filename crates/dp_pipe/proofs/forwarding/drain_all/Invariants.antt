-- `drain_all`: the ports so far are drained.
use Rattle.std.proofs.Common.{◌≡◌, false, length, map}
use Rattle.dp_pipe.specs.Devices.{seen, AllSound, AllFared}
use Rattle.dp_pipe.specs.Forwarding.{DrainedFirst}
use Rattle.dp_pipe.proofs.forwarding.drain_all.Given as goal

abbrev pub invariant-loop-port : goal.invariant-loop-port
invariant-loop-port g l = record {
  first : DrainedFirst l.port l.unit l.time l.fn.engine l.engine (map (seen g.W.Sink.contents g.W.Sink.calls) l.fn.outs) (map
      (seen g.W.Sink.contents g.W.Sink.calls) l.outs);
  many : length l.outs ≡ length l.fn.outs;
  fared : AllSound g.W.Sink.is_broken l.fn.outs → AllFared g.W.Sink.is_broken g.W.Sink.failures (λ q. false) l.fn.outs l.outs;
}
