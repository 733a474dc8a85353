-- All files.
use Rattle.std.proofs.Common.{◌∙◌, ◌++◌, map, ap, arith}
use Rattle.dp_captures.specs.Guarding.{read_target, targets}
use Rattle.dp_captures.proofs.Opened.{take_past}
use Rattle.dp_captures.proofs.guard.keep_reads.Goals as goal

pub returns : goal.returns
returns c = c.loop-read.invariant ∙ ap (λ reads. targets c.args.kept.now.items ++ map read_target reads)
    (take_past c.args.reads.now c.loop-read.read-index (omega (arith, c.loop-read-test.false)))
