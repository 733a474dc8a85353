-- `read_pieces`: the last piece is the instruction, and the others are labels.
use Rattle.std.proofs.Common.{rules, ◌≡◌, get_or, ap, map, sym, ◌∙◌, take, length, ◌-◌}
use Rattle.dp_lang.specs.Lines.{trim_start}
use Rattle.dp_lang.specs.Reading.{statement_of, labels_after}
use Rattle.dp_lang.proofs.Loops.{instruction_is, labels_are}
use Rattle.dp_lang.proofs.reader.read_pieces.Goals as goal

pub returns-clause-read : goal.returns-clause-read
returns-clause-read c =
    let ps = c.in_ok-pieces.pieces.items in
    let cut = map (λ piece. piece.now) ps in
    let count = c.len-number.result in
    let old = c.args.source.now.labels in
    let seen : c.deref.result.now ≡ ps = search rules in
    let counted : c.len-last.result ≡ length ps = search rules in
    let read : get_or ps (length ps - 1) c.index.result.now ≡ c.index.result.now = search rules in
    let word = instruction_is ps c.index.result.now c.in_ok-pieces.ensures.some ∙ ap (λ piece. trim_start piece.now) read ∙ sym c.trim_start.ensures in
    rw (← c.in_ok-pieces.ensures.pieces, word, ← c.len-number.ensures, labels_are ps, ← counted)
    (c.merged.ensures.both (statement_of c.trim_start.result.now)
    (labels_after count old (map (λ piece. trim_start piece.now) (take (c.len-last.result - 1) ps))) _
    c.statement_in-statement.ensures.read (rw seen at c.add_labels-labels.ensures))
