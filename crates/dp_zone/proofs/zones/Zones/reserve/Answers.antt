-- The new zone's name is new to the table.
use Rattle.std.proofs.Common.{◌≡◌, ℕ, List, false, sym, subst, ◌∙◌, arith}
use Rattle.dp_heap.specs.declared.elements.Element.{Element}
use Rattle.dp_heap.specs.declared.error.HeapError.{HeapError}
use Rattle.dp_heap.specs.declared.error.HeapError.TheVariants as errors
use Rattle.dp_heap.specs.Refusals.{IsRefused}
use Rattle.dp_zone.specs.declared.error.ZoneError.TheVariants.{NoRoom}
use Rattle.dp_zone.specs.Zones.{Reserved, AreApart, has_name, IsReservable, IsZoneRefused}
use Rattle.dp_zone.specs.Entries.{table_of}
use Rattle.dp_zone.proofs.Apart.{apart_entries}
use Rattle.dp_zone.proofs.zones.Zones.reserve.Goals as goal

pub invariant_of-self : goal.invariant_of-self
invariant_of-self c =
    let name = c.args.name.now in
    let fresh = subst (λ table. has_name name table ≡ false) (sym c.self.view_is) c.in_default.ensures.none.fresh in
    subst (λ es. AreApart (table_of es)) (sym c.push.ensures.items) (apart_entries c.self.inside.entries.items _ name c.self.invariant (c.text.ensures
    ∙ c.in-Some-new.ensures.some.0) fresh)

no_room : (e : HeapError) (name : List ℕ) (len align : ℕ) (table : List Reserved) (es : List Element) → IsReservable name len align table →
    IsRefused e len align es → IsZoneRefused NoRoom name len align table es
no_room errors.ZeroSize name len align table es can refused = absurd (omega (arith, can.length_fits.0, refused))
no_room errors.BadAlign name len align table es can refused = absurd (refused.1 can.aligned)
no_room errors.NoRoom name len align table es can refused = (can.named, can.length_fits, can.aligned, can.fresh, can.room, refused.2)

pub returns-in-Err-clause-refused : goal.returns-in-Err-clause-refused
returns-in-Err-clause-refused c =
    no_room c.in-Err.field-0 c.args.name.now c.args.len c.args.align c.args.self.now c.args.heap.now.elements c.in_default.ensures.none
    c.in-Err.ensures.refused.0

pub returns-in-Some-clause-refused : goal.returns-in-Some-clause-refused
returns-in-Some-clause-refused c = c.in-Some.ensures.some c.args.heap.now.elements

pub returns-in_default-new-clause-refused : goal.returns-in_default-new-clause-refused
returns-in_default-new-clause-refused c = c.in_default-new.ensures.none

pub returns-in-Ok-clause-reservable : goal.returns-in-Ok-clause-reservable
returns-in-Ok-clause-reservable c = c.in_default.ensures.none
