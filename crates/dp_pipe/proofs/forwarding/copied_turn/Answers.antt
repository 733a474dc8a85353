-- `copied_turn`: a turn with the record that was read.
use Rattle.std.proofs.Common.{ap, refl, ◌∙◌}
use Rattle.std.specs.Prelude.{Ok}
use Rattle.dp_pipe.proofs.Lending.{copied, has_room, traced, turned}
use Rattle.dp_pipe.proofs.forwarding.copied_turn.Goals as goal

pub returns-in-Ok-Record-clause-turn : goal.returns-in-Ok-Record-clause-turn
returns-in-Ok-Record-clause-turn g c =
    let is = c.in-Ok-Record.is ∙ ap Ok c.in-Ok-Record.field-0-is in
    let t = c.watched_turn-turn.ensures in
    copied g.V.Watch.sees c.args.watch.now c.watched_turn-turn.new.watch c.args.port c.args.engine.now c.watched_turn-turn.new.self c.args.source.now
    c.next_record.new.source (g.R.Feed.remaining c.args.r.now) (g.R.Feed.remaining c.next_record.new.r) c.next_record.new.buf c.in-Ok-Record.time
    c.in-Ok-Record.len (rw is at (c.next_record.ensures.continues c.requires.open))
    (has_room c.args.source.now c.next_record.result _ _ _ is c.next_record.ensures.in_range (rw c.next_record.auto.buf c.requires.buf))
    (turned t.taken t.watched) (traced t.taken t.watched c.in-Ok-Record.time refl refl)
