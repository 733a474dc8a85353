use Rattle.std.proofs.Common.{refl}
use Rattle.dp_engine.proofs.Pushing.{popped}
use Rattle.dp_engine.proofs.queues.Queues.pop_list.Goals as goal

pub returns-clause-rest : goal.returns-clause-rest
returns-clause-rest c =
    let its = popped c.self.inside.outboxes c.pop-handle.new.self c.args.port c.pop-handle.ensures.rest in
    rw (← c.self.view_is) (record { rings_stay = refl; outboxes_stay = its.frames; rings_have = refl; outboxes_have = its.lists })
