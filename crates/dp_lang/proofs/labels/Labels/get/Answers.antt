-- `get`: what the map has under the bytes of a label.
use Rattle.std.proofs.Common.{◌∙◌, ap, sym}
use Rattle.std.specs.FinMap as map
use Rattle.dp_lang.proofs.LabelMaps.{get-by_bytes}
use Rattle.dp_lang.proofs.labels.Labels.get.Goals as goal

pub returns : goal.returns
returns c = c.copied.ensures ∙ c.get.ensures.value ∙ sym (get-by_bytes c.args.name.now c.self.inside.numbers.entries)
    ∙ ap (λ m. map.get m c.args.name.now) c.self.view_is
