-- One input more.
use Rattle.std.proofs.Common.{rules, ◌∙◌, ◌<◌, ◌++◌, length, map, ap, arith}
use Rattle.dp_captures.specs.Guarding.{input_target, targets}
use Rattle.dp_captures.proofs.Opened.{one_more, take_past}
use Rattle.dp_captures.proofs.guard.keep_inputs.Goals as goal

pub loop-port-preserved : goal.loop-port-preserved
loop-port-preserved g c =
    let within : c.loop-port.port < length c.args.inputs.now = omega (arith, c.loop-port-test.true) in
    one_more input_target _ _ _ c.args.inputs.now c.loop-port.port _ c.index-inputs-port.result _ within c.index-inputs-port.is
    (search rules) c.in_ok-keep.ensures c.loop-port.invariant

pub returns : goal.returns
returns g c = c.loop-port.invariant
    ∙ ap (λ inputs. targets c.args.kept.now.items ++ map input_target inputs)
    (take_past c.args.inputs.now c.loop-port.port (omega (arith, c.loop-port-test.false)))
