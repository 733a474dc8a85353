-- One output more is apart.
use Rattle.std.proofs.Common.{rules, ◌<◌, length, add-one, arith}
use Rattle.dp_captures.specs.Guarding.{output_target}
use Rattle.dp_captures.proofs.{Guarding.apart_more, Guarding.none_left, Opened.output_named}
use Rattle.dp_captures.proofs.guard.refuse_open.Goals as goal

pub bounds-names-port : goal.bounds-names-port
bounds-names-port g c = omega (arith, c.loop-port-test.true)

pub loop-port-preserved : goal.loop-port-preserved
loop-port-preserved g c rest =
    let within : c.loop-port.port < length c.args.outputs.now = omega (arith, c.loop-port-test.true) in
    c.loop-port.invariant (apart_more output_target c.loop-port.kept.items _ c.args.outputs.now c.loop-port.port c.index-outputs-port.result _ _ within
    c.index-outputs-port.is (search rules) c.in_default.ensures.apart c.in_default.ensures.added (rw (add-one c.loop-port.port) at rest))

pub returns-clause-apart : goal.returns-clause-apart
returns-clause-apart g c = c.loop-port.invariant (none_left output_target _ c.args.outputs.now c.loop-port.port (omega (arith, c.loop-port-test.false)))

pub returns-in-Err-clause-named : goal.returns-in-Err-clause-named
returns-in-Err-clause-named g c =
    let within : c.loop-port.port < length c.args.names.now = omega (arith, c.loop-port-test.true) in
    output_named c.args.names.now c.loop-port.port c.index-names-port.result _ _ within c.index-names-port.is c.in-Err.ensures.named
