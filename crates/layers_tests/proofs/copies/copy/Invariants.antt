-- `copy`: what was read so far, and that its text was written.
use Rattle.std.proofs.Common.{◌≡◌, ◌-◌, false}
use Rattle.layers_tests.proofs.Copying.{Going}
use Rattle.layers_tests.proofs.copies.copy.Given as goal

abbrev pub invariant-loop-time : goal.invariant-loop-time
invariant-loop-time g l = record {
  going : Going (g.R.Feed.remaining l.fn.r) (g.R.Feed.remaining l.r) (g.W.Sink.contents l.fn.w) (g.W.Sink.contents l.w) l.source l.unit;
  sound : g.W.Sink.is_broken l.w ≡ false;
  pulls : g.R.Feed.failures l.r ≡ g.R.Feed.failures l.fn.r;
  pushes : g.W.Sink.failures l.w ≡ g.W.Sink.failures l.fn.w;
}

abbrev pub decreases-loop-time : goal.decreases-loop-time
decreases-loop-time g l = 16777216 - l.source.given
