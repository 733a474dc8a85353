-- `target`: the label is one of the statements.
use Rattle.std.proofs.Common.{rules, ◌≡◌, ◌<◌, ◌≤◌, length, refl, sym, ◌∙◌, Some}
use Rattle.std.specs.FinMap.{get}
use Rattle.std.proofs.lemmas.Bool.{lt-ltb, le-ltb}
use Rattle.std.proofs.lemmas.List.{length-map}
use Rattle.dp_lang.specs.Sources.{with_line}
use Rattle.dp_lang.proofs.resolve.target.Goals as goal

pub returns-then-from-len : goal.returns-then-from-len
returns-then-from-len c =
    let found : get c.args.source.now.labels c.args.name.now ≡ Some c.in_ok-number.number = sym c.get.ensures ∙ c.in_ok-number.was in
    let lt : c.in_ok-number.number < length c.args.source.now.statements.items = search rules in
    rw (found, length-map c.args.source.now.statements.items with_line, lt-ltb _ _ lt) refl

pub returns-else-from-len : goal.returns-else-from-len
returns-else-from-len c =
    let found : get c.args.source.now.labels c.args.name.now ≡ Some c.in_ok-number.number = sym c.get.ensures ∙ c.in_ok-number.was in
    let le : length c.args.source.now.statements.items ≤ c.in_ok-number.number = search rules in
    rw (found, length-map c.args.source.now.statements.items with_line, le-ltb _ _ le) refl
