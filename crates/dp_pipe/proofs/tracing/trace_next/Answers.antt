-- `trace_next`: the record that was read is traced.
use Rattle.std.proofs.Common.{rules, ◌∙◌, ap, take}
use Rattle.std.specs.Prelude.{Ok}
use Rattle.dp_pipe.proofs.Lending.{TracesAt, traced}
use Rattle.dp_pipe.proofs.TracedReads.{traced_record}
use Rattle.dp_pipe.proofs.tracing.trace_next.Goals as goal

pub returns-in-Ok-Record-clause-turn : goal.returns-in-Ok-Record-clause-turn
returns-in-Ok-Record-clause-turn g c =
    let t = c.watched_turn-turn.ensures in
    let shown : TracesAt g.T.Watch.sees g.T.Tracer.noted c.args.tracer.now c.turned.new.self c.args.port c.in-Ok-Record.time c.args.engine.now
    c.watched_turn-turn.new.self (take c.in-Ok-Record.len c.next_record.new.buf) =
    traced t.taken t.watched c.in-Ok-Record.time (search rules) (search rules) in
    traced_record g.T.Watch.sees g.T.Tracer.noted c.args.tracer.now c.turned.new.self c.args.port c.args.engine.now c.watched_turn-turn.new.self
    c.args.source.now c.next_record.new.source (g.R.Feed.remaining c.args.r.now) (g.R.Feed.remaining c.next_record.new.r) c.next_record.result
    c.in-Ok-Record.time c.in-Ok-Record.len c.next_record.new.buf (c.in-Ok-Record.is ∙ ap Ok c.in-Ok-Record.field-0-is)
    (c.next_record.ensures.continues c.requires.open) c.next_record.ensures.in_range (rw c.next_record.auto.buf c.requires.buf) shown.0 shown.1
