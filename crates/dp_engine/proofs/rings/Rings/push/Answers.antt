-- An entry is appended to a list: whether it fits is derived once.
use Rattle.std.proofs.Common.{◌<◌, ◌∙◌, ℕ, ap, subst, length, [], ◌∷◌}
use Rattle.std.specs.Prelude.{nat_lt, if◌then◌else◌}
use Rattle.dp_ring.specs.Rings.{RingView, room_in, with_more}
use Rattle.dp_engine.specs.Queues.{ring_at}
use Rattle.dp_engine.proofs.Slots.{listed as ring_listed, has_ring, ring_is, ring_now, changed, renewed, set_where}
use Rattle.dp_engine.proofs.rings.Rings.push.Goals as goal

-- a ring after a push
abbrev pushed : ℕ → RingView → RingView
pushed entry r = if nat_lt 0 (room_in r) then with_more r (entry ∷ []) else r

pub listed : goal.listed
listed c = (ring_listed _ _ c.self.view_is c.self.invariant.0 _ _ c.from.ensures c.requires).0

pub bounds-self-inside-from : goal.bounds-self-inside-from
bounds-self-inside-from c = (ring_listed _ _ c.self.view_is c.self.invariant.0 _ _ c.from.ensures c.requires).1

pub push_in-requires : goal.push_in-requires
push_in-requires c = has_ring _ _ c.self.view_is c.self.invariant.0 _ _ _ c.from.ensures c.requires

pub invariant_of-self : goal.invariant_of-self
invariant_of-self c =
    renewed _ _ c.self.view_is c.self.invariant.0 _ _ _ _ (pushed c.args.entry)
    c.self.inside.count c.from.ensures c.requires c.push_in.ensures.ring c.self.invariant.1

pub returns-clause-taken : goal.returns-clause-taken
returns-clause-taken c =
    c.push_in.ensures.taken ∙ ap (λ r. nat_lt 0 (room_in r)) (ring_is _ _ c.self.view_is c.self.invariant.0 _ _ _ c.from.ensures c.requires)

pub returns-clause-count : goal.returns-clause-count
returns-clause-count c =
    c.push_in.ensures.count ∙ ap (λ (r : RingView). length r.entries) (ring_now _ _ c.self.view_is c.self.invariant.0 _ _ _ _ (pushed c.args.entry)
    c.from.ensures c.requires c.push_in.ensures.ring)

pub returns-clause-bound : goal.returns-clause-bound
returns-clause-bound c =
    subst (λ (r : RingView). c.push_in.result.1 < r.count) (ring_now _ _ c.self.view_is c.self.invariant.0 _ _ _ _ (pushed c.args.entry)
    c.from.ensures c.requires c.push_in.ensures.ring) c.push_in.ensures.bound

pub returns-clause-rings : goal.returns-clause-rings
returns-clause-rings c =
    (changed _ _ c.self.view_is c.self.invariant.0 _ _ _ _ (pushed c.args.entry)
    c.from.ensures c.requires c.push_in.ensures.ring).1
    ∙ set_where (nat_lt 0 (room_in (ring_at c.args.self.now c.args.k))) c.args.self.now c.args.k
    (with_more (ring_at c.args.self.now c.args.k) (c.args.entry ∷ []))
