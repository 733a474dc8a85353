-- The next record gets its offset, until all have.
use Rattle.std.proofs.Common.{◌+◌, ◌<◌, List, ap, ◌∙◌, arith, get_or}
use Rattle.std.proofs.lemmas.List.{get_or_default}
use Rattle.std.proofs.lemmas.List.Edits.{map_over_more}
use Rattle.dp_engine.specs.declared.batch.SentRecord.{SentRecord}
use Rattle.dp_host.specs.Bursts.{shifted}
use Rattle.dp_host.proofs.Places.{all_at, all_reached, not_reached}
use Rattle.dp_host.proofs.bursts.shift.Goals as goal

pub overflow_add-records : goal.overflow_add-records
overflow_add-records c =
    let none : SentRecord = record { time = 0; offset = 0; port = 0; length = 0 } in
    let there = ap (λ (rs : List SentRecord). (get_or rs c.loop-k.k none).offset) c.loop-k.invariant
    ∙ ap (λ (r : SentRecord). r.offset) (not_reached (shifted c.args.before) c.args.records.now c.loop-k.k none) in
    let fits = all_at (λ (r : SentRecord). r.offset + c.args.before < 18446744073709551616) c.args.records.now c.loop-k.k none c.requires (omega arith) in
    record { fits = omega (arith, there, fits) }

pub loop-k-preserved : goal.loop-k-preserved
loop-k-preserved c =
    let none : SentRecord = record { time = 0; offset = 0; port = 0; length = 0 } in
    let r = get_or c.loop-k.records c.loop-k.k none in
    map_over_more (shifted c.args.before) c.args.records.now c.loop-k.records c.loop-k.k r (omega arith) c.loop-k.invariant
    (get_or_default c.loop-k.records c.loop-k.k none r (omega arith))

pub returns : goal.returns
returns c = c.loop-k.invariant ∙ all_reached (shifted c.args.before) c.args.records.now c.loop-k.k (omega arith)
