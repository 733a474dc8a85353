use Rattle.std.proofs.Common.{sym, ◌∙◌, ap, arith, add-one}
use Rattle.dp_engine.specs.Engines.{drained}
use Rattle.dp_engine.proofs.Emptied.{lists_of_ports, dropped_to, dropped_next, all_dropped}
use Rattle.dp_engine.proofs.engine.Engine.flush_lists.Goals as goal

pub loop-port-preserved : goal.loop-port-preserved
loop-port-preserved g c =
    let e = c.args.self.now in
    c.drop_sent.ensures ∙ ap (drained c.loop-port.port 0) c.loop-port.invariant ∙ dropped_next c.loop-port.port e ∙ ap (λ n. dropped_to n e)
    (sym (add-one c.loop-port.port))

pub returns : goal.returns
returns g c =
    let many = lists_of_ports c.self.invariant c.self.view_is c.env.ensures.same c.ports-ports.ensures in
    c.loop-port.invariant ∙ all_dropped c.loop-port.port c.args.self.now (omega (arith, c.loop-port-test.false, many))
