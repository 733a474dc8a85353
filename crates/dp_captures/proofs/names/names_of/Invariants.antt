-- The captures of one port after the other so far.
use Rattle.std.proofs.Common.{◌≡◌, length, map, take}
use Rattle.dp_captures.specs.Names.{captures_from, input_capture, output_capture}
use Rattle.dp_captures.proofs.names.names_of.Given as goal

abbrev pub invariant-loop-port : goal.invariant-loop-port
invariant-loop-port l = record {
  many : length l.names.items ≡ l.port;
  inputs : map input_capture l.names.items ≡ captures_from l.given.inputs.items 0 (take l.port l.pipeline.inputs);
  outputs : map output_capture l.names.items ≡ captures_from l.given.outputs.items 0 (take l.port l.pipeline.outputs);
}
