-- A handle is appended to a queue: what that makes of a ring is derived once.
use Rattle.std.proofs.Common.{◌≡◌, ◌++◌, ◌∷◌, [], ◌∙◌, true, refl, sym, arith}
use Rattle.dp_engine.specs.HandleQueues.{ring_of_queue, Becomes}
use Rattle.dp_engine.proofs.Firsts.{IsPut, put_is}
use Rattle.dp_engine.proofs.Pushing.{pushed}
use Rattle.dp_engine.proofs.queues.Queues.push.Goals as goal
use Rattle.dp_engine.proofs.queues.Queues.push.Goals.{After-push-is_taken, else-is_taken-via-then-is_taken+else-ring-self, else-is_taken-via-else-is_taken}

-- which ring waits first
put : (c : After-push-is_taken) → IsPut c.self.inside.rings c.push-is_taken.new.self c.in-Ring.ring c.push-is_taken.result.0
put c =
    let there = rw (c.in-Ring.is, ← c.self.view_is) at c.requires in
    put_is c.self.inside.rings _ c.in-Ring.ring c.args.handle _ there c.push-is_taken.ensures.taken c.push-is_taken.ensures.rings

-- and what waits in it
more : (c : After-push-is_taken) → c.push-is_taken.result.0 ≡ true
    → Becomes c.args.queue ((ring_of_queue c.args.queue c.args.self.now.rings c.args.self.now.outboxes).entries ++ c.args.handle ∷ []) c.args.self.now
    (record { rings = c.push-is_taken.new.self; outboxes = c.self.inside.outboxes })
more c taken =
    let its = pushed c.self.inside.rings c.push-is_taken.new.self c.in-Ring.ring c.args.handle _ c.push-is_taken.ensures.rings
    (sym c.push-is_taken.ensures.taken ∙ taken) in
    rw (← c.self.view_is, c.in-Ring.is) (record { rings_stay = its.frames; outboxes_stay = refl; rings_have = its.lists; outboxes_have = refl })

pub invariant_of-self : goal.invariant_of-self
invariant_of-self c = (
  (put (goal.at.invariant_of-self c).After-push-is_taken).earlier c.if-is_taken.true (omega (arith, c.self.invariant.0, c.if-ring-self.true)),
  c.self.invariant.1,
)

pub invariant_of-self-else-ring-self : goal.invariant_of-self-else-ring-self
invariant_of-self-else-ring-self c = (
  c.self.invariant.0 ∙ (put (goal.at.invariant_of-self-else-ring-self c).After-push-is_taken).later c.if-is_taken.true
      (omega (arith, c.self.invariant.0, c.if-ring-self.false)),
  c.self.invariant.1,
)

pub returns-in-Tx-clause-more : goal.returns-in-Tx-clause-more
returns-in-Tx-clause-more c taken = rw (c.in-Tx.is) (c.push_list.ensures.more taken)

pub returns-then-ring-self-clause-more : goal.returns-then-ring-self-clause-more
returns-then-ring-self-clause-more c taken = more (goal.at.returns-then-ring-self-clause-more c).After-push-is_taken taken

pub returns-else-is_taken-clause-more : goal.returns-else-is_taken-clause-more
returns-else-is_taken-clause-more c taken =
    let its = more (goal.at.returns-else-is_taken-clause-more c).After-push-is_taken taken in
    elim c.else-is_taken.branch [
      | else-is_taken-via-then-is_taken+else-ring-self w ↦ rw w.self-is its
      | else-is_taken-via-else-is_taken w ↦ rw w.self-is its
    ]
