-- `tables_of`: the tables so far have their routes, and none of their hops is too great.
use Rattle.std.proofs.Common.{take, map}
use Rattle.std.specs.List.{All}
use Rattle.dp_load.specs.Config.{HaveTheirRoutes}
use Rattle.dp_lpm.specs.Routes.{HasSmallHops}
use Rattle.dp_load.specs.Views.{table_part}
use Rattle.dp_load.proofs.config.tables_of.Given as goal

abbrev pub invariant-loop-index : goal.invariant-loop-index
invariant-loop-index l = record {
  hold : HaveTheirRoutes (take l.index (map table_part l.tables)) l.filled_tables.items;
  hops : All HasSmallHops l.filled_tables.items;
}
