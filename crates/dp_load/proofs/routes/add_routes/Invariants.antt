-- `add_routes`: the table took the routes so far, and where no hop was too great before, none is now.
use Rattle.std.proofs.Common.{take}
use Rattle.dp_lpm.specs.Routes.{HasSmallHops}
use Rattle.dp_load.specs.Routes.{TakesAll}
use Rattle.dp_load.specs.Views.{values}
use Rattle.dp_load.proofs.routes.add_routes.Given as goal

abbrev pub invariant-loop-index : goal.invariant-loop-index
invariant-loop-index l = record {
  taken : TakesAll l.initial.table l.table (take l.index (values l.routes));
  hops : HasSmallHops l.initial.table → HasSmallHops l.table;
}
