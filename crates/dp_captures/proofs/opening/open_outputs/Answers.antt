-- One output more.
use Rattle.std.proofs.Common.{rules, ◌≡◌, ◌<◌, ◌∷◌, ◌++◌, [], length, length-append, arith}
use Rattle.dp_captures.specs.{Files.IsOpenedOutput, Names.output_capture, Opening.IsOf}
use Rattle.dp_captures.proofs.Opened.{captures_opened, output_named}
use Rattle.dp_captures.proofs.opening.open_outputs.Goals as goal

pub loop-port-preserved : goal.loop-port-preserved
loop-port-preserved g c =
    let items : c.push.new.self.items ≡ c.loop-port.outputs.items ++ c.in-Ok.output ∷ [] = search rules in
    let within : c.loop-port.port-index < length c.args.names.now = omega (arith, c.loop-port-test.true) in
    record {
      many = rw (items, length-append) (omega (arith, c.loop-port.invariant.many));
      opened = rw items (captures_opened IsOpenedOutput output_capture c.args.names.now c.loop-port.outputs.items c.loop-port.port-index c.port-item.result _
          c.in-Ok.output within c.port-item.is c.loop-port.invariant.opened c.in-Ok.ensures);
    }

pub returns-in-Err-clause-first : goal.returns-in-Err-clause-first
returns-in-Err-clause-first g c =
    let within : c.loop-port.port-index < length c.args.names.now = omega (arith, c.loop-port-test.true) in
    let of : IsOf (output_capture c.port-item.result).1 c.unopened.result = search rules in
    output_named c.args.names.now c.loop-port.port-index c.port-item.result _ c.unopened.result within c.port-item.is of
