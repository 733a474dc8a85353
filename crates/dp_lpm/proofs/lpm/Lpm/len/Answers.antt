-- No hop is too great.
use Rattle.std.proofs.Common.{subst}
use Rattle.std.specs.List.{AllByRecursion}
use Rattle.dp_lpm.specs.Routes.{IsRoute}
use Rattle.dp_lpm.proofs.Looking.{low_hops}
use Rattle.dp_lpm.proofs.lpm.Lpm.len.Goals as goal

pub returns-clause-hops : goal.returns-clause-hops
returns-clause-hops c =
    low_hops c.args.self.now.routes (subst (λ t. AllByRecursion IsRoute t.routes) c.self.view_is c.self.invariant.rules.each)
