-- Where no handle occurs, no slot has a packet.
use Rattle.dp_engine.proofs.Idling.{has_none}
use Rattle.dp_engine.proofs.machine.Machine.into_parts.Goals as goal

pub returns-clause-none : goal.returns-clause-none
returns-clause-none c =
    has_none c.self.inside c.args.self c.self.view_is c.self.invariant c.requires.idle c.requires.rings c.requires.outboxes
