use Rattle.std.proofs.Common.{◌≡◌, map}
use Rattle.std.specs.List.{AllByRecursion}
use Rattle.dp_lpm.specs.Kept.{IsKept, shown}
use Rattle.dp_lpm.proofs.tables.Tables.of.Given as goal

abbrev pub invariant-loop-table : goal.invariant-loop-table
invariant-loop-table l = record {
  same : map shown l.ruled.items ≡ l.yielded;
  kept : AllByRecursion IsKept l.ruled.items;
}
