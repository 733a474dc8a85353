use Rattle.std.proofs.Common.{◌∙◌, refl, sym}
use Rattle.dp_engine.proofs.Pushing.{pushed}
use Rattle.dp_engine.proofs.queues.Queues.push_list.Goals as goal

pub returns-clause-more : goal.returns-clause-more
returns-clause-more c taken =
    let its = pushed c.self.inside.outboxes c.push-is_taken.new.self c.args.port c.args.handle _ c.push-is_taken.ensures.rings
    (sym c.push-is_taken.ensures.taken ∙ taken) in
    rw (← c.self.view_is) (record { rings_stay = refl; outboxes_stay = its.frames; rings_have = refl; outboxes_have = its.lists })
