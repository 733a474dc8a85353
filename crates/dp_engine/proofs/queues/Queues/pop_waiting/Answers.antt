-- The first ring that waits loses an entry: what that makes of the rings is derived once.
use Rattle.std.proofs.Common.{◌≡◌, ◌<◌, ◌≤◌, ◌∙◌, length, drop, ap, refl, sym, subst, arith, true}
use Rattle.std.specs.List.{position}
use Rattle.std.proofs.lemmas.List.{length-set}
use Rattle.dp_ring.specs.Rings.{without_first}
use Rattle.dp_model.specs.declared.queue.Queue.TheVariants.{Ring}
use Rattle.dp_engine.specs.HandleQueues.{Becomes}
use Rattle.dp_engine.specs.Queues.{QueuesView, ring_at, is_waiting}
use Rattle.dp_engine.proofs.Firsts.{first_slot, first_is, first_waits, has_entry, here, idle_is, waits_is, not_before, stepped, within}
use Rattle.dp_engine.proofs.Pushing.{popped}
use Rattle.dp_engine.proofs.queues.Queues.pop_waiting.Goals as goal
use Rattle.dp_engine.proofs.queues.Queues.pop_waiting.Goals.{After-pop}

-- the ring is the first that waits
first : (c : After-pop) → (c.args.ring ≡ first_slot c.self.inside.rings) × (c.args.ring < length c.self.inside.rings)
first c = first_is c.self.inside.rings c.args.ring (ap (λ (q : QueuesView). position is_waiting q.rings) c.self.view_is ∙ c.requires.waits)

-- none before it waits after that
from : (c : After-pop) → c.args.ring ≤ first_slot c.pop.new.self
from c =
    let rings = c.self.inside.rings in
    let (same, there) = first c in
    subst (λ rs. c.args.ring ≤ first_slot rs) (sym c.pop.ensures.rest)
    (not_before rings c.args.ring (without_first (ring_at rings c.args.ring) 1) (omega (arith, same)) there)

there_now : (c : After-pop) → c.args.ring < length c.pop.new.self
there_now c =
    let rings = c.self.inside.rings in
    let (same, there) = first c in
    omega (arith, ap length c.pop.ensures.rest, length-set rings c.args.ring (without_first (ring_at rings c.args.ring) 1), there)

rest : (c : After-pop) → Becomes (Ring c.args.ring) (drop 1 (ring_at c.args.self.now.rings c.args.ring).entries) c.args.self.now
    (record { rings = c.pop.new.self; outboxes = c.self.inside.outboxes })
rest c =
    let its = popped c.self.inside.rings c.pop.new.self c.args.ring c.pop.ensures.rest in
    rw (← c.self.view_is) (record { rings_stay = its.frames; outboxes_stay = refl; rings_have = its.lists; outboxes_have = refl })

pub proved-requires : goal.proved-requires
proved-requires c =
    let rings = c.self.inside.rings in
    let (same, there) = first (goal.at.proved-requires c).After-pop in
    let waits : is_waiting (ring_at rings c.args.ring) ≡ true =
    ap (λ k. is_waiting (ring_at rings k)) same ∙ first_waits rings (omega (arith, same, there)) in
    absurd (has_entry (ring_at rings c.args.ring) waits (sym c.in_default.is ∙ c.pop.ensures.first))

pub first_from-self-inside-requires : goal.first_from-self-inside-requires
first_from-self-inside-requires c =
    let at = (goal.at.first_from-self-inside-requires c).After-pop in
    let more =
    stepped c.pop.new.self c.args.ring (from at) (there_now at) (idle_is (ring_at c.pop.new.self c.args.ring) (sym c.count.ensures.value
    ∙ c.if-count-eq0.true)) in
    omega (arith, more)

pub invariant_of-self-else-ring-self : goal.invariant_of-self-else-ring-self
invariant_of-self-else-ring-self c =
    let at = (goal.at.invariant_of-self-else-ring-self c).After-pop in
    let rings = c.pop.new.self in
    let more = stepped rings c.args.ring (from at) (there_now at) (idle_is (ring_at rings c.args.ring) (sym c.count.ensures.value ∙ c.if-count-eq0.true)) in
    (omega (arith, more, within rings, c.if-ring-self.false, c.len.ensures.value), c.self.invariant.1)

pub invariant_of-self-else-count-eq0 : goal.invariant_of-self-else-count-eq0
invariant_of-self-else-count-eq0 c =
    let at = (goal.at.invariant_of-self-else-count-eq0 c).After-pop in (
      c.self.invariant.0
          ∙ sym (first at).0
          ∙ here c.pop.new.self c.args.ring (from at) (there_now at)
          (waits_is (ring_at c.pop.new.self c.args.ring) (λ e. c.if-count-eq0.false (c.count.ensures.value ∙ e))),
      c.self.invariant.1,
    )

pub returns-then-ring-self-clause-rest : goal.returns-then-ring-self-clause-rest
returns-then-ring-self-clause-rest c = rest (goal.at.returns-then-ring-self-clause-rest c).After-pop

pub returns-else-ring-self-clause-rest : goal.returns-else-ring-self-clause-rest
returns-else-ring-self-clause-rest c = rest (goal.at.returns-else-ring-self-clause-rest c).After-pop

pub returns-else-count-eq0-clause-rest : goal.returns-else-count-eq0-clause-rest
returns-else-count-eq0-clause-rest c = rest (goal.at.returns-else-count-eq0-clause-rest c).After-pop
