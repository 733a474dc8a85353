-- The captures of one more port.
use Rattle.std.proofs.Common.{rules, ◌∙◌, length, length-append, map, ap, arith}
use Rattle.dp_captures.specs.{declared.names.CaptureNames.CaptureNames, Names.input_capture, Names.output_capture}
use Rattle.dp_captures.proofs.Chosen.{captures_more}
use Rattle.dp_captures.proofs.names.names_of.Goals as goal

pub loop-port-preserved : goal.loop-port-preserved
loop-port-preserved c = record {
  many = omega (arith, ap length c.in_ok-push.ensures.items, length-append {A = CaptureNames}, c.loop-port.invariant.many);
  inputs =
      ap (map input_capture) c.in_ok-push.ensures.items
      ∙ captures_more input_capture c.args.given.now.inputs.items c.args.pipeline.now.inputs c.loop-port.names.items c.loop-port.port _ _
      c.input.ensures
      (search rules)
      c.loop-port.invariant.inputs;
  outputs =
      ap (map output_capture) c.in_ok-push.ensures.items
      ∙ captures_more output_capture c.args.given.now.outputs.items c.args.pipeline.now.outputs c.loop-port.names.items c.loop-port.port _ _
      c.output.ensures
      (search rules)
      c.loop-port.invariant.outputs;
}
