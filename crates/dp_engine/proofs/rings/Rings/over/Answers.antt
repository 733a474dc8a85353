use Rattle.std.proofs.Common.{◌≡◌, length, rules, refl, ap, ◌∙◌}
use Rattle.std.specs.Prelude.{unwrap_or}
use Rattle.dp_engine.specs.Queues.{rings_in}
use Rattle.dp_engine.proofs.Slots.{counted}
use Rattle.dp_engine.proofs.rings.Rings.over.Goals as goal

pub invariant_of-result : goal.invariant_of-result
invariant_of-result c =
    let long : length c.args.rings ≡ 8 = search rules in (
      (long, c.requires),
      c.unwrap_or-count.ensures ∙ (ap (λ o. unwrap_or o 8) c.first_empty.ensures
          ∙ counted c.args.rings (rings_in c.args.rings) refl (long, c.requires)),
    )
