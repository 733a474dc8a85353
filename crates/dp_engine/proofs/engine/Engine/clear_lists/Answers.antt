use Rattle.std.proofs.Common.{length, sym, ◌∙◌, ap, arith, add-one}
use Rattle.std.specs.Prelude.{slice_get}
use Rattle.dp_model.specs.Environments.{Environment}
use Rattle.dp_model.specs.Laws.Lists.{get_within}
use Rattle.dp_engine.specs.Engines.{EngineState, drained}
use Rattle.dp_engine.proofs.Emptied.{lists_of_ports, drained_to, drained_next, drained_all, emptied_at}
use Rattle.dp_engine.proofs.engine.Engine.clear_lists.Goals as goal

pub count_sent-requires : goal.count_sent-requires
count_sent-requires g c =
    let env = c.ports-ports.ensures ∙ ap (λ (x : Environment). x.ports) c.env.ensures.same ∙ ap (λ (x : EngineState). x.setting.env.ports) c.self.view_is in
    omega (arith, c.loop-port-test.true, ap length env, ap (λ (x : EngineState). length x.setting.env.ports) c.loop-port.invariant)

pub loop-port-preserved : goal.loop-port-preserved
loop-port-preserved g c =
    let e = c.args.self.now in
    let n = c.loop-port.port in
    let many = lists_of_ports c.self.invariant c.self.view_is c.env.ensures.same c.ports-ports.ensures in
    let (packets, there) = get_within e.world.outboxes n (omega (arith, c.loop-port-test.true, many)) in
    let now = ap (λ (x : EngineState). slice_get x.world.outboxes n) c.loop-port.invariant ∙ emptied_at n e.world.outboxes ∙ there in
    c.count_sent.ensures packets now ∙ ap (drained n (length packets)) c.loop-port.invariant ∙ drained_next n e packets there
    ∙ ap (λ m. drained_to m e) (sym (add-one n))

pub returns : goal.returns
returns g c =
    let many = lists_of_ports c.self.invariant c.self.view_is c.env.ensures.same c.ports-ports.ensures in
    c.loop-port.invariant ∙ drained_all c.loop-port.port c.args.self.now (omega (arith, c.loop-port-test.false, many))
