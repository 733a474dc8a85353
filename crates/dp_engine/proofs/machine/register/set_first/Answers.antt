use Rattle.dp_engine.proofs.Receive.{with_first}
use Rattle.dp_engine.proofs.machine.register.set_first.Goals as goal

pub returns : goal.returns
returns c = rw (c.put.ensures) (with_first c.args.registers.now c.args.handle c.told-registers c.requires)
