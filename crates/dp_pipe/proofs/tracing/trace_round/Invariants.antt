-- `trace_round`: tracing goes on, port by port.
use Rattle.std.proofs.Common.{ℕ}
use Rattle.dp_pipe.proofs.Kept.{KeepsTrace}
use Rattle.dp_pipe.proofs.tracing.trace_round.Given as goal

abbrev pub invariant-loop-port : goal.invariant-loop-port
invariant-loop-port g l =
    KeepsTrace g.T.Watch.sees g.T.Tracer.noted g.R.Feed.remaining g.R.Feed.calls g.R.Feed.is_broken g.R.Feed.failures l.fn.engine l.engine l.fn.inputs
    l.inputs l.fn.ins l.ins l.fn.buf l.buf l.fn.which l.which l.fn.tracer l.tracer (λ along. (k : ℕ) → along k 0 k l.port)
