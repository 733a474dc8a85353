-- `instrs_of`: the statements so far, and the rest.
use Rattle.std.proofs.Common.{◌≡◌, drop, map}
use Rattle.dp_lang.specs.Reading.{all_statements, target_in}
use Rattle.dp_lang.specs.Forms.{spelled}
use Rattle.dp_lang.specs.Sources as view
use Rattle.dp_lang.proofs.Loops.{prepend}
use Rattle.dp_lang.proofs.resolve.instrs_of.Given as goal

abbrev pub invariant-loop-statement : goal.invariant-loop-statement
invariant-loop-statement l =
    prepend (map spelled l.instrs.items) (all_statements (target_in (view.source l.source))
    (map view.with_line (drop l.statement-index l.source.statements.items)))
    ≡ all_statements (target_in (view.source l.source)) (map view.with_line l.source.statements.items)
