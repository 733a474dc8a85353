-- `set_states`: one more state.
use Rattle.std.proofs.Common.{sym, add-one}
use Rattle.dp_pipe.proofs.Heading.{more_answers}
use Rattle.dp_pipe.proofs.running.set_states.Goals as goal

pub loop-port-preserved : goal.loop-port-preserved
loop-port-preserved c =
    rw (c.loop-port.invariant, add-one)
    (sym (more_answers c.args.inputs.now c.args.ports.now c.loop-port.port c.index-inputs-port.result _ c.loop-port-test.true))
