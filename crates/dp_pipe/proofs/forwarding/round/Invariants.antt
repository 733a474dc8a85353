-- `round`: the run continues, port by port.
use Rattle.std.proofs.Common.{ℕ}
use Rattle.dp_pipe.proofs.Kept.{KeepsRun}
use Rattle.dp_pipe.proofs.forwarding.round.Given as goal

abbrev pub invariant-loop-port : goal.invariant-loop-port
invariant-loop-port g l =
    KeepsRun g.V.Watch.sees g.R.Feed.remaining g.R.Feed.calls g.R.Feed.is_broken g.R.Feed.failures g.W.Sink.contents g.W.Sink.calls g.W.Sink.is_broken
    g.W.Sink.failures l.unit l.fn.engine l.engine l.fn.inputs l.inputs l.fn.ins l.ins l.fn.outs l.outs l.fn.buf l.buf l.fn.watch l.watch
    (λ along. (k : ℕ) → along k 0 k l.port)
