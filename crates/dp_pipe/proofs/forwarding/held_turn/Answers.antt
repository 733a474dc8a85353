-- `held_turn`: a turn with the buffered record.
use Rattle.std.proofs.Common.{refl}
use Rattle.dp_pipe.proofs.Lending.{lent, traced, turned}
use Rattle.dp_pipe.proofs.forwarding.held_turn.Goals as goal

pub returns-clause-turn : goal.returns-clause-turn
returns-clause-turn g c time held =
    let t = c.watched_turn-turn.ensures in
    lent g.V.Watch.sees c.args.watch.now c.watched_turn-turn.new.watch c.args.port c.args.engine.now c.watched_turn-turn.new.self c.args.source.now _
    (g.R.Feed.remaining c.args.r.now) _ (g.R.Feed.at_hand c.args.r.now) c.body_of.result.now time c.args.found.len held
    (c.pass_record.ensures.continues time held) c.body_of.ensures.value (turned t.taken t.watched) (traced t.taken t.watched time refl refl)
