-- The lines of what is read.
use Rattle.std.proofs.Common.{map, ap, ◌∙◌}
use Rattle.dp_lang.proofs.SourceLines.{lines_are}
use Rattle.dp_lang.proofs.line_numbers.source_lines.Goals as goal

pub returns : goal.returns
returns c =
    lines_are c.args.text.now c.in_ok-source.source _ c.in_ok-source.ensures
    (c.in_ok-lines_of.ensures ∙ ap (λ statements. map (λ s. s.line) statements) c.deref.ensures.value)
