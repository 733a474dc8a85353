-- `rounds_alone`: the run continues, a record of its only open input in each round.
use Rattle.std.proofs.Common.{◌≡◌, ℕ, false, List, length, map}
use Rattle.std.specs.Prelude.{slice_set}
use Rattle.dp_engine.specs.Engines.{EngineState}
use Rattle.dp_pipe.specs.declared.forwarding.InputProgress.{InputProgress}
use Rattle.dp_pipe.specs.Devices.{Device, seen, transfer, AllSound, AllFared, FaredAlone}
use Rattle.dp_pipe.specs.Forwarding.{Input, RunUntil, IsAlone}
use Rattle.dp_pipe.specs.Watched.{ShowsUntil}
use Rattle.dp_pipe.proofs.Rounding.{results_left}
use Rattle.dp_pipe.proofs.forwarding.rounds_alone.Given as goal

abbrev pub invariant-loop-unit : goal.invariant-loop-unit
invariant-loop-unit g l = record {
  outs : length l.outs ≡ length l.fn.outs;
  buf : length l.buf ≡ length l.fn.buf;
  goes : (inputs : List InputProgress) (ins : List _) (e0 : EngineState) (olds held : List Device) (read : List Input) (k : ℕ) →
      IsAlone l.port l.fn.input l.fn.r inputs ins →
      RunUntil l.unit e0 l.fn.engine (transfer olds (map (seen g.R.Feed.remaining g.R.Feed.calls) ins) held (map
      (seen g.W.Sink.contents g.W.Sink.calls) l.fn.outs)) inputs read k 0
      → (now : List Input) × (round : ℕ) × RunUntil l.unit e0 l.engine (transfer olds (map (seen g.R.Feed.remaining g.R.Feed.calls)
      (slice_set ins l.port l.r)) held (map (seen g.W.Sink.contents g.W.Sink.calls) l.outs)) (slice_set inputs l.port l.input) now round 0;
  reader : FaredAlone g.R.Feed.is_broken g.R.Feed.failures (λ q. false) l.port l.fn.r l.r;
  writers : AllSound g.W.Sink.is_broken l.fn.outs → AllFared g.W.Sink.is_broken g.W.Sink.failures (λ q. false) l.fn.outs l.outs;
  shown : (inputs : List InputProgress) (ins : List _) (v0 : _) (e0 : EngineState) (olds : List Device) (k : ℕ)
      → IsAlone l.port l.fn.input l.fn.r inputs ins
      → ShowsUntil g.V.Watch.sees v0 l.fn.watch e0 l.fn.engine olds (map (seen g.R.Feed.remaining g.R.Feed.calls) ins) inputs k 0
      → (round : ℕ) × ShowsUntil g.V.Watch.sees v0 l.watch e0 l.engine olds (map (seen g.R.Feed.remaining g.R.Feed.calls) (slice_set ins l.port l.r))
      (slice_set inputs l.port l.input) round 0;
}

abbrev pub decreases-loop-unit : goal.decreases-loop-unit
decreases-loop-unit g l = results_left l.input
