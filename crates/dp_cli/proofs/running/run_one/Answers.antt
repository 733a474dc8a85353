-- `run_one`: the program is run with its certificate, on the port of that command.
use Rattle.std.proofs.Common.{rules}
use Rattle.dp_cli.proofs.running.run_one.Goals as goal

pub returns : goal.returns
returns g c = (_, search rules, rw (c.one_env.ensures) at c.run_single.ensures)
