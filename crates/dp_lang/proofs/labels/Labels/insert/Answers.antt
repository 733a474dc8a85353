-- `insert`: the map with the bytes of a label.
use Rattle.std.proofs.Common.{◌∙◌, ap}
use Rattle.std.specs.FinMap as map
use Rattle.dp_lang.proofs.LabelMaps.{insert-by_bytes}
use Rattle.dp_lang.proofs.labels.Labels.insert.Goals as goal

pub returns : goal.returns
returns c = insert-by_bytes c.self.inside.numbers c.insert.new.self c.args.name.now c.args.number c.in_ok-insert.ensures.updates
    ∙ ap (λ m. map.insert m c.args.name.now c.args.number) c.self.view_is
