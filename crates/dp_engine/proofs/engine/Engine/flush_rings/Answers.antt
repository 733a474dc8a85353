use Rattle.std.proofs.Common.{◌<◌, length, sym, ◌∙◌, ap, arith, add-one}
use Rattle.dp_engine.specs.Engines.{left_at}
use Rattle.dp_engine.proofs.Emptied.{rings_of_env, left_to, left_next, all_left}
use Rattle.dp_engine.proofs.engine.Engine.flush_rings.Goals as goal

pub loop-ring-preserved : goal.loop-ring-preserved
loop-ring-preserved g c =
    let e = c.args.self.now in
    let many = rings_of_env c.self.invariant c.self.view_is c.env.ensures.same c.rings-rings.ensures in
    let lt : c.loop-ring.ring < length e.world.rings = omega (arith, c.loop-ring-test.true, many) in
    c.leave.ensures ∙ ap (left_at c.loop-ring.ring) c.loop-ring.invariant ∙ left_next c.loop-ring.ring e lt ∙ ap (λ n. left_to n e)
    (sym (add-one c.loop-ring.ring))

pub returns : goal.returns
returns g c =
    let many = rings_of_env c.self.invariant c.self.view_is c.env.ensures.same c.rings-rings.ensures in
    c.loop-ring.invariant ∙ all_left c.loop-ring.ring c.args.self.now (omega (arith, c.loop-ring-test.false, many))
