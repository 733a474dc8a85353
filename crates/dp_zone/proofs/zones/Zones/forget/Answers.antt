-- The entry of the name is removed, if there is one.
use Rattle.std.proofs.Common.{◌≡◌, position, Some, None, sym, ap, subst, ◌∙◌}
use Rattle.dp_zone.specs.declared.zones.Reservation.{Reservation}
use Rattle.dp_zone.specs.Names.{same_name}
use Rattle.dp_zone.specs.Zones.{AreApart, zone_named, without_name}
use Rattle.dp_zone.specs.Entries.{table_of}
use Rattle.dp_zone.proofs.Apart.{apart_without, gone_without}
use Rattle.dp_zone.proofs.Positions.{none_from_position}
use Rattle.dp_zone.proofs.Tables.{table_removed, table_stays}
use Rattle.dp_zone.proofs.zones.Zones.forget.Goals as goal

pub invariant_of-self : goal.invariant_of-self
invariant_of-self c =
    let name = c.args.name.now in
    let entries = c.self.inside.entries.items in
    let at : position (λ e. same_name e.name.bytes name) entries ≡ Some c.in-Some.index =
    ap (λ es. position (λ e. same_name e.name.bytes name) es) (sym c.as_slice.ensures.value) ∙ (sym c.index_of.ensures ∙ c.in-Some.is) in
    subst AreApart (sym (table_removed name c.remove.result entries _ c.in-Some.index at c.remove.ensures.items))
    (apart_without name (table_of entries) c.self.invariant)

pub returns-in-Some : goal.returns-in-Some
returns-in-Some c =
    let name = c.args.name.now in
    let entries = c.self.inside.entries.items in
    let at : position (λ e. same_name e.name.bytes name) entries ≡ Some c.in-Some.index =
    ap (λ es. position (λ e. same_name e.name.bytes name) es) (sym c.as_slice.ensures.value) ∙ (sym c.index_of.ensures ∙ c.in-Some.is) in
    let left = table_removed name c.remove.result entries _ c.in-Some.index at c.remove.ensures.items in
    record {
      table = left ∙ ap (λ table. without_name name table) c.self.view_is;
      gone = ap (λ table. zone_named name table) left ∙ gone_without name (table_of entries) c.self.invariant;
    }

pub returns-in_default : goal.returns-in_default
returns-in_default c =
    let name = c.args.name.now in
    let entries = c.self.inside.entries.items in
    let none : position (λ e. same_name e.name.bytes name) entries ≡ None =
    ap (λ es. position (λ e. same_name e.name.bytes name) es) (sym c.as_slice.ensures.value) ∙ (sym c.index_of.ensures ∙ c.in_default.is) in
    let left = sym c.self.view_is
    ∙ (table_stays name entries (none_from_position (λ (e : Reservation). same_name e.name.bytes name) entries none)
    ∙ ap (λ table. without_name name table) c.self.view_is) in
    record {
      table = left;
      gone = ap (λ table. zone_named name table) left ∙ gone_without name c.args.self.now (subst AreApart c.self.view_is c.self.invariant);
    }
