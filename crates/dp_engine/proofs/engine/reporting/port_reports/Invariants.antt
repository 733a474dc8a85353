use Rattle.std.proofs.Common.{◌≡◌, map, take}
use Rattle.dp_engine.specs.declared.report.InputState.TheVariants.{Open}
use Rattle.dp_engine.specs.Reports.{port_report}
use Rattle.dp_engine.proofs.engine.reporting.port_reports.Given as goal

abbrev pub invariant-loop-t : goal.invariant-loop-t
invariant-loop-t l = l.ports.items ≡ map (port_report Open) (take l.t-index l.tallies)
