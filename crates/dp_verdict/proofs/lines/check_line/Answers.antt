-- One line more.
use Rattle.std.proofs.Common.{subst}
use Rattle.std.specs.Io.KnownBytes.{Appends}
use Rattle.dp_model.specs.declared.env.Entry.{Entry}
use Rattle.dp_verdict.specs.Lines.{accepted_line, accepted_at_line}
use Rattle.dp_verdict.proofs.Saying.{line_next}
use Rattle.dp_verdict.proofs.lines.check_line.Goals as goal

pub loop-k-preserved : goal.loop-k-preserved
loop-k-preserved g c =
    line_next accepted_line c.args.pipeline.now.nodes c.loop-k.k c.node.result.now _ _ _ c.node.ensures.node c.loop-k.invariant
    (subst (λ (e : Entry). Appends (g.P.Write.contents c.loop-k.out) (g.P.Write.contents c.writeln.new.self) (accepted_at_line e)) c.entry.ensures
    c.in-Ok.ensures.bytes)
