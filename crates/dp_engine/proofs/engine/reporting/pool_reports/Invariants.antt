use Rattle.std.proofs.Common.{◌≡◌, length, take}
use Rattle.dp_model.specs.Machine.{live}
use Rattle.dp_model.specs.Packets.{available}
use Rattle.dp_model.specs.Runs.{between}
use Rattle.dp_engine.specs.Reports.{pool_reports}
use Rattle.dp_engine.proofs.engine.reporting.pool_reports.Given as goal

abbrev pub invariant-loop-k : goal.invariant-loop-k
invariant-loop-k l = record {
  answers : l.pools.items ≡ pool_reports (available l.specs (live (between l.machine.state.world))) 0 (take l.k l.specs);
  count : length l.pools.items ≡ l.k;
}
