-- `add_labels`: the labels so far, and the rest of the pieces.
use Rattle.std.proofs.Common.{◌≡◌, drop, map}
use Rattle.dp_lang.specs.Lines.{trim_start}
use Rattle.dp_lang.specs.Reading.{labels_after}
use Rattle.dp_lang.proofs.Loops.{noting}
use Rattle.dp_lang.proofs.reader.add_labels.Given as goal

abbrev pub invariant-loop-piece : goal.invariant-loop-piece
invariant-loop-piece l =
    noting l.fault (labels_after l.number l.labels (map (λ piece. trim_start piece.now) (drop l.piece-index l.pieces)))
    ≡ labels_after l.number l.fn.labels (map (λ piece. trim_start piece.now) l.pieces)
