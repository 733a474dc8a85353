-- One input more.
use Rattle.std.proofs.Common.{rules, ◌≡◌, ◌<◌, ◌∷◌, ◌++◌, [], length, length-append, arith}
use Rattle.dp_captures.specs.{Files.IsOpenedInput, Names.input_capture, Opening.IsOf}
use Rattle.dp_captures.proofs.Opened.{captures_opened, input_named}
use Rattle.dp_captures.proofs.opening.open_inputs.Goals as goal

pub loop-port-preserved : goal.loop-port-preserved
loop-port-preserved g c =
    let items : c.push.new.self.items ≡ c.loop-port.inputs.items ++ c.in-Ok.input ∷ [] = search rules in
    let within : c.loop-port.port < length c.args.names.now = omega (arith, c.loop-port-test.true) in
    record {
      many = rw (items, length-append) (omega (arith, c.loop-port.invariant.many));
      opened = rw items (captures_opened IsOpenedInput input_capture c.args.names.now c.loop-port.inputs.items c.loop-port.port c.index-names-port.result _
          c.in-Ok.input within c.index-names-port.is c.loop-port.invariant.opened c.in-Ok.ensures);
    }

pub returns-in-Err-clause-first : goal.returns-in-Err-clause-first
returns-in-Err-clause-first g c =
    let within : c.loop-port.port < length c.args.names.now = omega (arith, c.loop-port-test.true) in
    let of : IsOf (input_capture c.index-names-port.result).1 c.unopened.result = search rules in
    rw c.loop-port.invariant.many
    (input_named c.args.names.now c.loop-port.port c.index-names-port.result _ c.unopened.result within c.index-names-port.is of)
