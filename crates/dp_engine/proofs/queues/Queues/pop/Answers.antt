-- The first handle of a queue is taken: what that makes of a ring is derived once.
use Rattle.std.proofs.Common.{◌<◌, ◌≤◌, ◌∙◌, length, drop, ap, refl, sym, subst, arith}
use Rattle.dp_ring.specs.Rings.{without_first}
use Rattle.dp_engine.specs.HandleQueues.{ring_of_queue, Becomes}
use Rattle.dp_engine.specs.Queues.{ring_at}
use Rattle.dp_engine.proofs.Firsts.{first_slot, not_before, stays}
use Rattle.dp_engine.proofs.Pushing.{popped}
use Rattle.dp_engine.proofs.queues.Queues.pop.Goals as goal
use Rattle.dp_engine.proofs.queues.Queues.pop.Goals.{After-pop-handle}

there : (c : After-pop-handle) → c.in-Ring.ring < length c.self.inside.rings
there c = rw (c.in-Ring.is, ← c.self.view_is) at c.requires

rest : (c : After-pop-handle) → Becomes c.args.queue (drop 1 (ring_of_queue c.args.queue c.args.self.now.rings c.args.self.now.outboxes).entries)
    c.args.self.now (record { rings = c.pop-handle.new.self; outboxes = c.self.inside.outboxes })
rest c =
    let its = popped c.self.inside.rings c.pop-handle.new.self c.in-Ring.ring c.pop-handle.ensures.rest in
    rw (← c.self.view_is, c.in-Ring.is) (record { rings_stay = its.frames; outboxes_stay = refl; rings_have = its.lists; outboxes_have = refl })

pub first_from-self-inside-requires : goal.first_from-self-inside-requires
first_from-self-inside-requires c =
    let rings = c.self.inside.rings in
    subst (λ rs. c.in-Ring.ring ≤ first_slot rs) (sym c.pop-handle.ensures.rest)
    (not_before rings c.in-Ring.ring (without_first (ring_at rings c.in-Ring.ring) 1) (omega (arith, c.self.invariant.0, c.if-ring-self.true))
    (there (goal.at.first_from-self-inside-requires c).After-pop-handle))

pub invariant_of-self-else-ring-self : goal.invariant_of-self-else-ring-self
invariant_of-self-else-ring-self c =
    let rings = c.self.inside.rings in (
      c.self.invariant.0 ∙ sym (ap first_slot c.pop-handle.ensures.rest
          ∙ stays rings c.in-Ring.ring (without_first (ring_at rings c.in-Ring.ring) 1) (omega (arith, c.self.invariant.0, c.if-ring-self.false))
          (there (goal.at.invariant_of-self-else-ring-self c).After-pop-handle)),
      c.self.invariant.1,
    )

pub returns-in-Tx-clause-rest : goal.returns-in-Tx-clause-rest
returns-in-Tx-clause-rest c = rw (c.in-Tx.is) c.pop_list.ensures.rest

pub returns-then-ring-self-clause-rest : goal.returns-then-ring-self-clause-rest
returns-then-ring-self-clause-rest c = rest (goal.at.returns-then-ring-self-clause-rest c).After-pop-handle

pub returns-else-ring-self-clause-rest : goal.returns-else-ring-self-clause-rest
returns-else-ring-self-clause-rest c = rest (goal.at.returns-else-ring-self-clause-rest c).After-pop-handle
