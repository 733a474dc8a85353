-- No handle occurs, and no slot has a packet.
use Rattle.dp_engine.proofs.Idling.{stand_over}
use Rattle.dp_engine.proofs.machine.Machine.over.Goals as goal

pub invariant_of-result : goal.invariant_of-result
invariant_of-result c =
    stand_over c.args.mbufs.store.slots c.no_packets.result c.args.queues.rings c.args.queues.outboxes c.no_packets.ensures c.requires.rings c.requires.outboxes
    c.requires.none
