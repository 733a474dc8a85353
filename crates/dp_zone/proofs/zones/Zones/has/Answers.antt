-- The entries are those of the table.
use Rattle.std.proofs.Common.{ap, ◌∙◌}
use Rattle.std.specs.List.{list_any}
use Rattle.dp_zone.specs.Names.{same_name}
use Rattle.dp_zone.specs.Zones.{has_name}
use Rattle.dp_zone.proofs.Tables.{has_name_any}
use Rattle.dp_zone.proofs.zones.Zones.has.Goals as goal

pub returns : goal.returns
returns c =
    c.any_named.ensures
    ∙ (ap (λ es. list_any (λ e. same_name e.name.bytes c.args.name.now) es) c.as_slice.ensures.value
    ∙ (has_name_any c.args.name.now c.self.inside.entries.items
    ∙ ap (λ table. has_name c.args.name.now table) c.self.view_is))
