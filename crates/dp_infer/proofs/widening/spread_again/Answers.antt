-- One label more.
use Rattle.std.proofs.Common.{◌≡◌, ◌+◌, ◌||◌, ap, subst, arith, drop, length, ◌<◌}
use Rattle.dp_model.specs.Laws.Lists.{get_within}
use Rattle.dp_infer.specs.Widening.{Passed, spread_again, weakened_once}
use Rattle.dp_infer.proofs.Widened.{as_they_are, spread_again_more, spread_again_done}
use Rattle.dp_infer.proofs.widening.spread_again.Goals as goal

pub loop-label-preserved : goal.loop-label-preserved
loop-label-preserved c =
    let within : c.loop-label.label < length c.args.program.now = omega arith in
    let (i, at_i) = get_within c.args.program.now c.loop-label.label within in
    record {
      passed = subst (λ (q : Passed). spread_again c.args.program.now c.args.env.now c.args.slow (drop (c.loop-label.label + 1) c.args.program.now)
          (c.loop-label.label + 1) (as_they_are q.rows (c.loop-label.changed || q.changed))
          ≡ weakened_once c.args.program.now c.args.env.now c.args.slow c.args.rows.now)
          (c.pass_again-again.ensures.passed i at_i)
          (spread_again_more c.args.program.now c.args.env.now c.args.slow c.loop-label.label i (as_they_are c.loop-label.rows c.loop-label.changed) _ at_i
          c.loop-label.invariant.passed);
      long = omega (arith, c.pass_again-again.ensures.long);
      well_formed = c.pass_again-again.ensures.well_formed;
    }

pub returns-clause-rows : goal.returns-clause-rows
returns-clause-rows c =
    ap (λ (p : Passed). p.rows) (spread_again_done c.args.program.now c.args.env.now c.args.slow c.loop-label.label
    (as_they_are c.loop-label.rows c.loop-label.changed) _ (omega arith) c.loop-label.invariant.passed)

pub returns-clause-changed : goal.returns-clause-changed
returns-clause-changed c =
    ap (λ (p : Passed). p.changed) (spread_again_done c.args.program.now c.args.env.now c.args.slow c.loop-label.label
    (as_they_are c.loop-label.rows c.loop-label.changed) _ (omega arith) c.loop-label.invariant.passed)
