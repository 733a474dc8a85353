-- One pass more, or the last.
use Rattle.std.proofs.Common.{◌+◌, ◌-◌, ◌∙◌, sym, arith}
use Rattle.dp_infer.specs.Widening.{max_passes}
use Rattle.dp_infer.proofs.Widened.{widened_more, widened_early, widened_done}
use Rattle.dp_infer.proofs.widening.widen.Goals as goal

pub returns-then-not-spread_again-clause-widened_to_end :
    goal.returns-then-not-spread_again-clause-widened_to_end
returns-then-not-spread_again-clause-widened_to_end c =
    c.spread_again.ensures.rows ∙ widened_early c.args.program.now c.args.env.now (max_passes - c.loop-pass.pass) c.loop-pass.pass c.loop-pass.rows _
    (omega arith) (sym c.spread_again.ensures.changed ∙ cc) c.loop-pass.invariant.left

pub loop-pass-preserved : goal.loop-pass-preserved
loop-pass-preserved c = record {
  left = rw c.spread_again.ensures.rows (widened_more c.args.program.now c.args.env.now (max_passes - c.loop-pass.pass) c.loop-pass.pass c.loop-pass.rows _
      (omega arith) (sym c.spread_again.ensures.changed ∙ cc) c.loop-pass.invariant.left (max_passes - (c.loop-pass.pass + 1)) (omega arith));
  long = omega (arith, c.spread_again.ensures.long);
  well_formed = c.spread_again.ensures.well_formed;
}

pub returns-clause-widened_to_end : goal.returns-clause-widened_to_end
returns-clause-widened_to_end c =
    widened_done c.args.program.now c.args.env.now (max_passes - c.loop-pass.pass) c.loop-pass.pass c.loop-pass.rows _ (omega arith)
    c.loop-pass.invariant.left
