-- The entries after those that are removed are left.
use Rattle.std.proofs.Common.{◌≡◌, ◌-◌, ◌≤◌, drop, length, sym, ap, ◌∙◌, subst, arith}
use Rattle.dp_ring.specs.Rings.{without_first, entries_from}
use Rattle.dp_ring.specs.contracts.ring.Ring.{the_view}
use Rattle.dp_ring.proofs.Entries.{counted}
use Rattle.dp_ring.proofs.Turning.{entries_left}
use Rattle.dp_ring.proofs.ring.Ring.skip.Goals as goal

-- the ring has that many entries
there : (c : goal.After-self) → c.args.number ≤ c.self.inside.used
there c =
    let is = counted c.self.inside.zone.bytes c.self.inside.count c.self.inside.first c.self.inside.used in
    let all : c.args.number ≤ length (the_view c.self.inside).entries = subst (λ r. c.args.number ≤ length r.entries) (sym c.self.view_is) c.requires in
    omega (arith, is, all)

pub overflow_cast-left : goal.overflow_cast-left
overflow_cast-left c = omega (arith, there c, c.self.invariant)

pub overflow_sub-left : goal.overflow_sub-left
overflow_sub-left c = there c

pub overflow_cast-number : goal.overflow_cast-number
overflow_cast-number c = omega (arith, there c, c.self.invariant)

pub slot_after-self-inside-requires : goal.slot_after-self-inside-requires
slot_after-self-inside-requires c = let (first, used, slots, _) = c.self.invariant in (first, omega (arith, there c, used), slots)

pub returns : goal.returns
returns c =
    let inside = c.self.inside in
    let number = c.args.number in
    let is = counted inside.zone.bytes inside.count inside.first inside.used in
    let all : number ≤ length (the_view inside).entries = subst (λ r. number ≤ length r.entries) (sym c.self.view_is) c.requires in
    let rest : entries_from inside.zone.bytes inside.count c.slot_after-self-inside.result (inside.used - number)
    ≡ drop number (entries_from inside.zone.bytes inside.count inside.first inside.used) =
    ap (λ p. entries_from inside.zone.bytes inside.count p (inside.used - number)) c.slot_after-self-inside.ensures.value
    ∙ entries_left inside.zone.bytes inside.count inside.first inside.used number c.self.invariant.0 c.self.invariant.1 (omega (arith, is, all)) in
    (λ i. record {
      count = inside.count;
      entries = rest i;
      name = inside.zone.name;
      home = inside.zone.home;
      offset = inside.zone.offset;
      len = length inside.zone.bytes;
    })
    ∙ ap (λ r. without_first r number) c.self.view_is
