-- The fault of an output.
use Rattle.std.proofs.Common.{◌<◌, length, arith}
use Rattle.dp_captures.proofs.Opened.{output_named}
use Rattle.dp_captures.proofs.guard.refuse_named.Goals as goal

pub returns-in-Err : goal.returns-in-Err
returns-in-Err g c =
    let within : c.loop-port.port-index < length c.args.names.now = omega (arith, c.loop-port-test.true) in
    output_named c.args.names.now c.loop-port.port-index c.port-item.result _ _ within c.port-item.is c.in-Err.ensures.named
