-- `is_any_left`: one more input, and the end.
use Rattle.std.proofs.Common.{inr, arith}
use Rattle.std.proofs.lemmas.Option.{slice_get_within}
use Rattle.dp_pipe.proofs.tracing.is_any_left.Goals as goal

pub loop-port-init : goal.loop-port-init
loop-port-init c = λ q p less at of state_is. absurd (omega (arith, less))

pub returns-clause-none : goal.returns-clause-none
returns-clause-none c = λ is. inr (λ q p at of state_is. c.loop-port.invariant q p
    (omega (arith, slice_get_within c.args.inputs.now q p at, c.loop-port-test.false, c.requires.few)) at of state_is)
