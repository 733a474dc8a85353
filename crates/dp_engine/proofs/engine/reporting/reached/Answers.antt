use Rattle.std.proofs.Common.{◌∙◌, arith}
use Rattle.std.proofs.lemmas.Option.{slice_get-get_or}
use Rattle.dp_engine.proofs.Reporting.{reached_one, reached_none}
use Rattle.dp_engine.proofs.engine.reporting.reached.Goals as goal
use Rattle.dp_engine.proofs.engine.reporting.reached.Goals.{then-n-calls, else-n-calls}

pub loop-n-preserved : goal.loop-n-preserved
loop-n-preserved c =
    let there = slice_get-get_or c.args.pattern.now c.loop-n.n-index 0 c.loop-n-test.true in
    elim c.if-n-calls.branch [
      | then-n-calls w ↦ (
        w.count-is
            ∙ reached_one c.args.pattern.now c.loop-n.n-index _ c.args.calls c.loop-n.count there w.if-n-calls.true c.loop-n.invariant.0,
        omega (arith, w.count-is, c.loop-n.invariant.1),
      )
      | else-n-calls w ↦ (
        w.count-is
            ∙ reached_none c.args.pattern.now c.loop-n.n-index _ c.args.calls c.loop-n.count there w.if-n-calls.false c.loop-n.invariant.0,
        omega (arith, w.count-is, c.loop-n.invariant.1),
      )
    ]
