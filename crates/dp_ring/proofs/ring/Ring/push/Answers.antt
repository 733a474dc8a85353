-- One more entry is stored after the others.
use Rattle.std.proofs.Common.{◌≡◌, ◌+◌, ◌*◌, ◌<◌, ◌≤◌, ◌++◌, [], ◌∷◌, length, sym, ap, ◌∙◌, subst, arith}
use Rattle.dp_region.specs.Region.{with_number}
use Rattle.dp_region.specs.Laws.{length-with_number}
use Rattle.dp_ring.specs.Rings.{room_in, with_more, entries_from}
use Rattle.dp_ring.specs.contracts.ring.Ring.{the_view}
use Rattle.dp_ring.proofs.Entries.{counted, entries_pushed}
use Rattle.dp_ring.proofs.ring.Ring.push.Goals as goal

-- there is room for one more
few : (c : goal.After-self-1) → c.self.inside.used + 1 < c.self.inside.count
few c =
    let is = counted c.self.inside.zone.bytes c.self.inside.count c.self.inside.first c.self.inside.used in
    let room : 0 < room_in (the_view c.self.inside) = subst (λ r. 0 < room_in r) (sym c.self.view_is) c.requires in
    omega (arith, is, room)

-- the slot lies in the zone
fits : (c : goal.After-self-1) → 4 * c.slot_after-slot.result + 4 ≤ length c.self.inside.zone.bytes
fits c = let (_, _, _, room) = c.self.invariant in omega (arith, c.slot_after-slot.ensures.bound, room)

long : (c : goal.After-self-1) → length c.store_one.new.zone.bytes ≡ length c.self.inside.zone.bytes
long c = ap (λ z. length z.bytes) c.store_one.ensures ∙ length-with_number c.self.inside.zone.bytes (4 * c.slot_after-slot.result) c.args.value (fits c)

pub invariant_of-self : goal.invariant_of-self
invariant_of-self c =
    let (first, _, slots, room) = c.self.invariant in (first, few c, slots, omega (arith, long c, room))

pub returns : goal.returns
returns c =
    let bytes = c.self.inside.zone.bytes in let (first, _, _, room) = c.self.invariant in
    let stands : entries_from c.store_one.new.zone.bytes c.self.inside.count c.self.inside.first (c.self.inside.used + 1)
    ≡ entries_from bytes c.self.inside.count c.self.inside.first c.self.inside.used ++ c.args.value ∷ [] =
    ap (λ z. entries_from z.bytes c.self.inside.count c.self.inside.first (c.self.inside.used + 1)) c.store_one.ensures
    ∙ (ap (λ p. entries_from (with_number bytes (4 * p) 4 c.args.value) c.self.inside.count c.self.inside.first (c.self.inside.used + 1))
    c.slot_after-slot.ensures.value
    ∙ entries_pushed bytes c.self.inside.count c.self.inside.first c.self.inside.used c.args.value first (few c) room
    c.ranges.value.fits) in
    let name = ap (λ z. z.name) c.store_one.ensures in
    let home = ap (λ z. z.home) c.store_one.ensures in
    let offset = ap (λ z. z.offset) c.store_one.ensures in
    let len = long c in
    (λ i. record { count = c.self.inside.count; entries = stands i; name = name i; home = home i; offset = offset i; len = len i })
    ∙ ap (λ r. with_more r (c.args.value ∷ [])) c.self.view_is
