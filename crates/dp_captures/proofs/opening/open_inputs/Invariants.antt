-- The inputs so far are open.
use Rattle.std.proofs.Common.{◌≡◌, length, take}
use Rattle.dp_captures.specs.Files.{AreInputs}
use Rattle.dp_captures.proofs.opening.open_inputs.Given as goal

abbrev pub invariant-loop-port : goal.invariant-loop-port
invariant-loop-port g l = record {
  many : length l.inputs.items ≡ l.port;
  opened : AreInputs (take l.port l.names) l.inputs.items;
}
