use Rattle.std.proofs.Common.{◌-◌, ◌≤◌}
use Rattle.dp_engine.proofs.Served.{Rounds}
use Rattle.dp_engine.proofs.Shown.{Seen}
use Rattle.dp_engine.proofs.serving.serve.Given as goal

abbrev pub invariant-loop-left : goal.invariant-loop-left
invariant-loop-left g l =
    (l.left ≤ 32) × Rounds l.context l.fn.m l.m (32 - l.left) l.served.runs l.served.steps l.served.cuts
    × Seen g.W.Watch.sees l.fn.watch l.watch l.context l.fn.m l.m (32 - l.left) l.served.runs

abbrev pub decreases-loop-left : goal.decreases-loop-left
decreases-loop-left g l = l.left
