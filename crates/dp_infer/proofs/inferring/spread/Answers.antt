-- One label more.
use Rattle.std.proofs.Common.{◌≡◌, length, Some, refl, subst, arith}
use Rattle.std.specs.Prelude.{slice_get}
use Rattle.std.proofs.lemmas.Option.{slice_get_read}
use Rattle.dp_infer.proofs.Passing.{spread_more, spread_done}
use Rattle.dp_infer.proofs.inferring.spread.Goals as goal

pub loop-label-preserved : goal.loop-label-preserved
loop-label-preserved c =
    let at_i : slice_get c.args.program.now c.loop-label.label ≡ Some c.index-program-from.result =
    subst (λ k. slice_get c.args.program.now k ≡ Some c.index-program-from.result) c.from.ensures
    (slice_get_read c.args.program.now (length c.args.program.now) c.from.result c.index-program-from.result refl
    (omega (arith, c.from.ensures)) c.index-program-from.is) in
    record {
      found = rw c.pass_from.ensures.found (spread_more c.args.env.now c.args.program.now c.loop-label.label c.index-program-from.result c.loop-label.rows _
          at_i c.loop-label.invariant.found);
      well_formed = c.pass_from.ensures.well_formed;
    }

pub returns-clause-found : goal.returns-clause-found
returns-clause-found c = spread_done c.args.env.now c.args.program.now c.loop-label.label c.loop-label.rows _ (omega arith) c.loop-label.invariant.found
