use Rattle.std.proofs.Common.{◌%◌, ◌^◌}
use Rattle.dp_engine.proofs.Lookups.{hop_at}
use Rattle.dp_engine.proofs.route_lookup.hop_in.Goals as goal

pub returns : goal.returns
returns c = hop_at c.args.tables.now c.args.table (c.args.n % 2 ^ 32) c.lookup.result c.lookup.ensures.value
