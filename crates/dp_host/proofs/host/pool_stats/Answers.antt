use Rattle.std.proofs.Common.{refl}
use Rattle.dp_host.proofs.Reported.{pool_found}
use Rattle.dp_host.proofs.host.pool_stats.Goals as goal

pub returns-in-Some-get : goal.returns-in-Some-get
returns-in-Some-get c =
    let found = c.in-Some-get.ensures.lookup in
    (refl, pool_found _ c.report.result _ c.args.pool _ _ _ c.args.stats.now c.in-Some.is c.report.ensures c.as_slice.ensures.value found.0 found.1)
