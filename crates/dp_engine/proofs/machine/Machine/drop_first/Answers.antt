-- Freeing the first packet of a transmit list or a ring: the packet is found once, and each goal is one step from there.
use Rattle.std.proofs.Common.{◌≡◌, ◌∷◌, Some}
use Rattle.std.specs.Prelude.{drop}
use Rattle.dp_engine.specs.MachineParts.{parts_of}
use Rattle.dp_engine.specs.HandleQueues.{handles_in, ring_of_queue}
use Rattle.dp_engine.proofs.Draining.{first_held, stand_drops, first_drops}
use Rattle.dp_engine.proofs.Pushing.{first_in, first_there, queue_there}
use Rattle.dp_engine.proofs.machine.Machine.drop_first.Goals as goal
use Rattle.dp_engine.proofs.machine.Machine.drop_first.Goals.{In-Some}

-- the queue begins with the handle
front : (c : In-Some) → handles_in c.args.queue (parts_of c.self.inside).lists
    ≡ Some (c.in-Some.packet ∷ drop 1 (ring_of_queue c.args.queue c.self.inside.queues.rings c.self.inside.queues.outboxes).entries)
front c =
    first_in c.args.queue c.self.inside.queues.rings c.self.inside.queues.outboxes c.in-Some.packet
    (queue_there c.self.inside _ c.self.view_is c.args.queue c.requires.there) c.in-Some.ensures.first

pub pop-requires : goal.pop-requires
pop-requires c = queue_there c.self.inside _ c.self.view_is c.args.queue c.requires.there

pub free-requires : goal.free-requires
free-requires c =
    let (k, has) = first_held c.args.queue (parts_of c.self.inside) c.in-Some.packet _ (front (goal.at.free-requires c).In-Some) c.self.invariant in
    rw (c.of.ensures) (k, has, tt)

pub invariant_of-self : goal.invariant_of-self
invariant_of-self c =
    let rest = c.pop.ensures.rest in
    rw (c.free.ensures.packets, c.of.ensures, rest.rings_have, rest.outboxes_have)
    (stand_drops c.args.queue (parts_of c.self.inside) c.in-Some.packet _ (front (goal.at.invariant_of-self c).In-Some) c.self.invariant)

pub proved-requires : goal.proved-requires
proved-requires c =
    let (packets, k, list) = c.requires.some in
    absurd (first_there c.self.inside _ c.self.view_is c.args.queue k packets c.requires.there list c.in-None.ensures.first)

pub returns : goal.returns
returns c packets k list =
    let rest = c.pop.ensures.rest in
    rw (c.free.ensures.packets, c.free.ensures.zones, c.of.ensures, rest.rings_stay, rest.outboxes_stay, rest.rings_have, rest.outboxes_have)
    (first_drops c.args.queue (parts_of c.self.inside) _ c.in-Some.packet _ k packets c.self.view_is c.self.invariant
    (front (goal.at.returns c).In-Some) list)
