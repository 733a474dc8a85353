-- `trace_rounds`: tracing goes on, round by round.
use Rattle.dp_pipe.proofs.Kept.{KeepsTrace}
use Rattle.dp_pipe.proofs.tracing.trace_rounds.Given as goal

abbrev pub invariant-loop-k : goal.invariant-loop-k
invariant-loop-k g l =
    KeepsTrace g.T.Watch.sees g.T.Tracer.noted g.R.Feed.remaining g.R.Feed.calls g.R.Feed.is_broken g.R.Feed.failures l.fn.engine l.engine l.fn.inputs
    l.inputs l.fn.ins l.ins l.fn.buf l.buf l.fn.which l.which l.fn.tracer l.tracer (λ along. along 0 0 l.k 0)
