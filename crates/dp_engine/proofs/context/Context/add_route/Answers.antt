-- A context with the tables that the call left.
use Rattle.dp_engine.proofs.Retabling.{retabled_context, is_retabled}
use Rattle.dp_engine.proofs.context.Context.add_route.Goals as goal

pub invariant_of-self : goal.invariant_of-self
invariant_of-self g c = let a = c.add_route.ensures in retabled_context c.self.inside.setting a.kept a.many a.hops c.self.invariant

pub returns-clause-kept : goal.returns-clause-kept
returns-clause-kept g c = let a = c.add_route.ensures in is_retabled c.self.inside.setting a.kept a.many a.hops c.self.invariant c.self.view_is
