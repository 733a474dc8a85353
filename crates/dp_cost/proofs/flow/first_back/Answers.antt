-- All labels were looked at.
use Rattle.std.proofs.Common.{rules, arith, length, refl}
use Rattle.std.proofs.lemmas.Option.{slice_get_read}
use Rattle.dp_cost.specs.Costs.{jumps_back}
use Rattle.dp_cost.proofs.Ways.{forward, within, one_more}
use Rattle.dp_cost.proofs.flow.first_back.Goals as goal

pub returns-clause-none : goal.returns-clause-none
returns-clause-none c =
    forward c.args.instrs.now (λ k i here. c.loop-label.invariant k i (omega (arith, within c.args.instrs.now k i here, c.loop-label-test.false)) here)

pub loop-label-preserved : goal.loop-label-preserved
loop-label-preserved c =
    let program = c.args.instrs.now in
    let label = c.loop-label.label in
    let instr = c.index-instrs-label.result in
    one_more jumps_back program label instr
    (slice_get_read program (length program) label instr refl c.loop-label-test.true c.index-instrs-label.is) (search rules) c.loop-label.invariant
