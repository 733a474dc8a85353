-- The outputs so far are open.
use Rattle.std.proofs.Common.{◌≡◌, length, take}
use Rattle.dp_captures.specs.Files.{AreOutputs}
use Rattle.dp_captures.proofs.opening.open_outputs.Given as goal

abbrev pub invariant-loop-port : goal.invariant-loop-port
invariant-loop-port g l = record {
  many : length l.outputs.items ≡ l.port-index;
  opened : AreOutputs (take l.port-index l.names) l.outputs.items;
}
