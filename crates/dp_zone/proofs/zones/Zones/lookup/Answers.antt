-- The entries are those of the table.
use Rattle.std.proofs.Common.{find, sym, ap, ◌∙◌, option_map}
use Rattle.dp_zone.specs.Names.{same_name}
use Rattle.dp_zone.specs.Zones.{info_of, zone_named}
use Rattle.dp_zone.proofs.Tables.{lookup_found}
use Rattle.dp_zone.proofs.zones.Zones.lookup.Goals as goal

pub returns-in-Some : goal.returns-in-Some
returns-in-Some c =
    let found = ap (λ es. find (λ e. same_name e.name.bytes c.args.name.now) es) (sym c.as_slice.ensures.value) ∙ (sym c.entry_named.ensures ∙ c.in-Some.is) in
    lookup_found c.args.name.now c.self.inside.entries.items c.in-Some.entry found
    ∙ ap (λ table. option_map info_of (zone_named c.args.name.now table)) c.self.view_is
