-- What the frames so far have done.
use Rattle.std.proofs.Common.{◌≡◌}
use Rattle.dp_host.proofs.SoFar.{SoFar}
use Rattle.dp_host.proofs.bursts.burst.Given as goal

abbrev pub invariant-loop-k : goal.invariant-loop-k
invariant-loop-k l = record {
  so_far : SoFar l.initial.host.running l.initial.host.missing l.port l.initial.frames (record { records = l.initial.records; bytes = l.initial.bytes })
      l.k l.host.running l.frames l.used (record { records = l.records; bytes = l.bytes });
  missing : l.host.missing ≡ l.initial.host.missing;
  explanation : l.host.explanation ≡ l.initial.host.explanation;
}
