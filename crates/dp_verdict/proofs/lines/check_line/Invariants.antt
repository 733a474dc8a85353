-- The lines of the nodes so far are written.
use Rattle.std.proofs.Common.{take}
use Rattle.std.specs.Io.KnownBytes.{Appends}
use Rattle.std.specs.List.{flat_map}
use Rattle.dp_verdict.specs.Lines.{accepted_line}
use Rattle.dp_verdict.proofs.lines.check_line.Given as goal

abbrev pub invariant-loop-k : goal.invariant-loop-k
invariant-loop-k g l = Appends (g.P.Write.contents l.fn.out) (g.P.Write.contents l.out) (flat_map accepted_line (take l.k l.pipeline.nodes))
