-- `idle_ports`: the ports so far.
use Rattle.std.proofs.Common.{◌≡◌, map, take}
use Rattle.dp_engine.specs.declared.report.InputState.TheVariants.{Open}
use Rattle.dp_engine.specs.Engines.{no_tallies}
use Rattle.dp_engine.specs.Reports.{port_report}
use Rattle.dp_pipe.proofs.running.idle_ports.Given as goal

abbrev pub invariant-loop-spec : goal.invariant-loop-spec
invariant-loop-spec l = l.ports.items ≡ map (λ _. port_report Open no_tallies) (take l._spec-index l.specs)
