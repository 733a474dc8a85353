-- The entries are stored in two runs.
use Rattle.std.proofs.Common.{◌≡◌, ◌+◌, ◌-◌, ◌<◌, ◌≤◌, ◌⊎◌, ◌++◌, length, take, drop, sym, ap, ◌∙◌, subst, arith}
use lib.ListN.{length-drop}
use Rattle.std.proofs.lemmas.List.{take_all}
use Rattle.dp_ring.specs.Rings.{room_in, with_more, entries_from, Stores}
use Rattle.dp_ring.specs.contracts.ring.Ring.{the_view}
use Rattle.dp_ring.proofs.Entries.{counted}
use Rattle.dp_ring.proofs.Turning.{entries_stored}
use Rattle.dp_ring.proofs.ring.Ring.push_all.Goals as goal

-- there is room for them
few : (c : goal.After-self-1) → c.self.inside.used + length c.args.values.now < c.self.inside.count
few c =
    let is = counted c.self.inside.zone.bytes c.self.inside.count c.self.inside.first c.self.inside.used in
    let room : length c.args.values.now ≤ room_in (the_view c.self.inside) =
    subst (λ r. length c.args.values.now ≤ room_in r) (sym c.self.view_is) c.requires in
    omega (arith, is, room, c.self.invariant.1)

long : (c : goal.After-self-1) → length c.store_run-2.new.zone.bytes ≡ length c.self.inside.zone.bytes
long c = c.store_run-2.ensures.bytes.long ∙ c.store_run.ensures.bytes.long

pub invariant_of-self : goal.invariant_of-self
invariant_of-self c =
    let (first, _, slots, room) = c.self.invariant in (first, few c, slots, omega (arith, long c, room))

pub returns : goal.returns
returns c =
    let values = c.args.values.now in let (first, _, _, room) = c.self.invariant in
    let n = c.before_turn-number.result in
    let inside = c.self.inside in
    let p = c.slot_after-slot.ensures.value in
    let front = subst (λ slot. Stores slot (take n values) inside.zone.bytes c.store_run.new.zone.bytes) p c.store_run.ensures.bytes in
    let rest : take (length values - n) (drop n values) ≡ drop n values = take_all (length values - n) (drop n values) (omega (arith, length-drop n values)) in
    let back = subst (λ part. Stores 0 part c.store_run.new.zone.bytes c.store_run-2.new.zone.bytes) rest c.store_run-2.ensures.bytes in
    let fits = subst (λ slot. n ≤ inside.count - slot) p c.before_turn-number.ensures.most.1 in
    let cut = subst (λ slot. (n ≡ length values) ⊎ (n ≡ inside.count - slot)) p c.before_turn-number.ensures.cut in
    let stands : entries_from c.store_run-2.new.zone.bytes inside.count inside.first (inside.used + length values)
    ≡ entries_from inside.zone.bytes inside.count inside.first inside.used ++ values =
    entries_stored inside.count inside.first inside.used n values inside.zone.bytes c.store_run.new.zone.bytes c.store_run-2.new.zone.bytes first
    (few c) room c.before_turn-number.ensures.most.0 fits cut front back in
    let (name, home, offset) = c.store_run.ensures.others in let (name', home', offset') = c.store_run-2.ensures.others in let len = long c in
    (λ i. record {
      count = inside.count;
      entries = stands i;
      name = (name' ∙ name) i;
      home = (home' ∙ home) i;
      offset = (offset' ∙ offset) i;
      len = len i;
    })
    ∙ ap (λ r. with_more r values) c.self.view_is
