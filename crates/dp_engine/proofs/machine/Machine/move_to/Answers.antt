-- A packet moves: its handle, and the handles of the queue, are derived once.
use Rattle.std.proofs.Common.{◌≡◌, ◌∙◌, Some, refl}
use Rattle.dp_engine.specs.HandleQueues.{handles_in, ring_of_queue}
use Rattle.dp_engine.specs.MachineParts.{parts_of}
use Rattle.dp_engine.proofs.Handles.{stand_moved}
use Rattle.dp_engine.proofs.Machines.{moves}
use Rattle.dp_engine.proofs.Registers.{handle, held}
use Rattle.dp_engine.proofs.Pushing.{handles_there, queue_there, room_at}
use Rattle.dp_engine.proofs.machine.Machine.move_to.Goals as goal
use Rattle.dp_engine.proofs.machine.Machine.move_to.Goals.{After-handle_in-packet}

there : (c : After-handle_in-packet) → handles_in c.args.queue (parts_of c.self.inside).lists
    ≡ Some ((ring_of_queue c.args.queue c.self.inside.queues.rings c.self.inside.queues.outboxes).entries)
there c =
    handles_there c.args.queue c.self.inside.queues.rings c.self.inside.queues.outboxes
    (queue_there c.self.inside _ c.self.view_is c.args.queue c.requires.there)

pub handle_in-packet-requires : goal.handle_in-packet-requires
handle_in-packet-requires c = let (k, holds) = c.requires.holds in handle _ _ c.args.p k c.self.view_is holds

pub push-requires : goal.push-requires
push-requires c = queue_there c.self.inside _ c.self.view_is c.args.queue c.requires.there

pub returns-then-not-push-clause-taken : goal.returns-then-not-push-clause-taken
returns-then-not-push-clause-taken c packets list =
    c.if-not-push.ensures.taken ∙ room_at c.self.inside _ c.self.view_is c.args.queue packets c.requires.there list

pub invariant_of-self-2 : goal.invariant_of-self-2
invariant_of-self-2 c =
    let (k, holds) = c.requires.holds in
    let its = held c.self.view_is c.self.invariant c.handle_in-packet.ensures holds in
    let more = c.if-not-push.ensures.more refl in
    rw (more.rings_have, more.outboxes_have, c.number.ensures, c.from.ensures, c.number-2.ensures.same, c.empty.ensures)
    (stand_moved c.args.queue _ its (there (goal.at.invariant_of-self-2 c).After-handle_in-packet) c.self.invariant)

pub returns-clause-taken : goal.returns-clause-taken
returns-clause-taken c packets list =
    c.if-not-push.ensures.taken ∙ room_at c.self.inside _ c.self.view_is c.args.queue packets c.requires.there list

pub returns-clause-sent : goal.returns-clause-sent
returns-clause-sent c _ k packets holds list =
    let its = held c.self.view_is c.self.invariant c.handle_in-packet.ensures holds in
    let more = c.if-not-push.ensures.more refl in
    rw (more.rings_stay, more.outboxes_stay, more.rings_have, more.outboxes_have, c.number.ensures, c.from.ensures, c.number-2.ensures.same, c.empty.ensures)
    (moves c.args.queue _ packets c.self.view_is (there (goal.at.returns-clause-sent c).After-handle_in-packet) list its)
