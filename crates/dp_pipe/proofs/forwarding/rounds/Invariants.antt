-- `rounds`: the run continues, round by round.
use Rattle.dp_pipe.proofs.Kept.{KeepsRun}
use Rattle.dp_pipe.proofs.forwarding.rounds.Given as goal

abbrev pub invariant-loop-k : goal.invariant-loop-k
invariant-loop-k g l =
    KeepsRun g.V.Watch.sees g.R.Feed.remaining g.R.Feed.calls g.R.Feed.is_broken g.R.Feed.failures g.W.Sink.contents g.W.Sink.calls g.W.Sink.is_broken
    g.W.Sink.failures l.unit l.fn.engine l.engine l.fn.inputs l.inputs l.fn.ins l.ins l.fn.outs l.outs l.fn.buf l.buf l.fn.watch l.watch
    (λ along. along 0 0 l.k 0)
