-- `idle_ports`: one more port.
use Rattle.std.proofs.Common.{◌∙◌, sym, add-one}
use Rattle.dp_engine.specs.declared.report.InputState.TheVariants.{Open}
use Rattle.dp_engine.specs.Engines.{no_tallies}
use Rattle.dp_engine.specs.Reports.{port_report}
use Rattle.dp_pipe.proofs.Heading.{same_more}
use Rattle.dp_pipe.proofs.running.idle_ports.Goals as goal

pub loop-spec-preserved : goal.loop-spec-preserved
loop-spec-preserved c = c.push.ensures.items ∙ rw (
  c.loop-spec.invariant,
  add-one,
) (sym (same_more (port_report Open no_tallies) c.args.specs.now c.loop-spec._spec-index c.loop-spec-test.true))
