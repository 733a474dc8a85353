-- One more line, of two pieces.
use Rattle.dp_engine.specs.declared.report.InputState.TheVariants.{Open}
use Rattle.dp_counts.specs.Report.{port_line}
use Rattle.dp_counts.proofs.Lines.{says_both, says_line}
use Rattle.dp_counts.proofs.report.say_ports.Goals as goal

pub loop-k-preserved : goal.loop-k-preserved
loop-k-preserved c =
    let there = c.say_state.new.out in
    let mid = c.say-in-loop-k.new.self in
    says_line c.args.out.now c.loop-k.out there port_line c.args.ports.now c.loop-k.k-counter
    (record { received = 0; nobuf = 0; oversize = 0; sent = 0; state = Open }) c.loop-k-test.true c.loop-k.invariant
    (says_both c.loop-k.out mid there _ _ (says_both c.loop-k.out c.say.new.self mid _ _ c.say.ensures c.say-in-loop-k.ensures) c.say_state.ensures)
