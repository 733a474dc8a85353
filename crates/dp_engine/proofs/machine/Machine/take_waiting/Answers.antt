use Rattle.std.proofs.Common.{sym, ap, ◌∙◌}
use Rattle.dp_model.specs.declared.queue.Queue.TheVariants.{Ring}
use Rattle.dp_engine.specs.Queues.{ring_at}
use Rattle.dp_engine.specs.Handles.{Core}
use Rattle.dp_engine.specs.MachineParts.{parts_of}
use Rattle.dp_engine.proofs.Clearing.{stand_first, starts_none, starts_first}
use Rattle.dp_engine.proofs.Pushing.{first_in}
use Rattle.dp_engine.proofs.Receive.{idle_of, empty_of}
use Rattle.dp_engine.proofs.RingLemmas.{first_of}
use Rattle.dp_engine.proofs.Waits.{found, none_waits, in_rings}
use Rattle.dp_engine.proofs.machine.Machine.take_waiting.Goals as goal

pub returns-in_default : goal.returns-in_default
returns-in_default c =
    let none = none_waits c.self.inside.mbufs.store.slots c.self.inside.queues.rings (sym c.first_waiting-first.ensures.value ∙ c.in_default.is) in
    rw (c.in_default.is)
    (starts_none c.args.self.now (in_rings c.self.inside.mbufs.store.slots c.self.inside.queues.rings)
    (ap (λ (x : Core). x.state.world.rings) c.self.view_is) none)

pub set_first-requires : goal.set_first-requires
set_first-requires c = empty_of (parts_of c.self.inside) c.args.self.now c.self.view_is c.requires.idle

pub invariant_of-self : goal.invariant_of-self
invariant_of-self c =
    let idle = idle_of c.self.view_is c.self.invariant c.requires.idle in
    let at = first_in (Ring c.in-Some.ring) c.self.inside.queues.rings c.self.inside.queues.outboxes c.pop_waiting-packet.result
    c.in-Some.ensures.bound c.pop_waiting-packet.ensures.first in
    let rest = c.pop_waiting-packet.ensures.rest in
    rw (c.set_first.ensures, rest.rings_have, rest.outboxes_have)
    (stand_first (parts_of c.self.inside) c.in-Some.ring c.pop_waiting-packet.result _ idle at)

pub returns-in-Some : goal.returns-in-Some
returns-in-Some c =
    let rest = c.pop_waiting-packet.ensures.rest in
    let first = found c.self.inside.mbufs.store.slots c.self.inside.queues.rings c.in-Some.ring (sym c.in-Some.ensures.value) in
    let at = first_of (ring_at c.self.inside.queues.rings c.in-Some.ring).entries c.pop_waiting-packet.result c.pop_waiting-packet.ensures.first in
    rw (c.set_first.ensures, rest.rings_stay, rest.outboxes_stay, rest.rings_have, rest.outboxes_have, c.from.ensures)
    (starts_first c.self.inside c.args.self.now c.in-Some.ring c.pop_waiting-packet.result _ c.self.view_is first at)
