use Rattle.std.proofs.Common.{sym, ap}
use Rattle.dp_engine.specs.Steps.{routes_of, setting_in}
use Rattle.dp_engine.proofs.Lookups.{table_there}
use Rattle.dp_engine.proofs.acts.look_up.Goals as goal

pub hop_in-requires : goal.hop_in-requires
hop_in-requires c =
    table_there (setting_in c.args.setting.now) c.tables.result.now c.args.label c.args.m.now.state c.args.into c.args.table c.args.address
    c.args.missed (sym (ap routes_of c.tables.ensures)) c.requires.has
