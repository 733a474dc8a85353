-- `run_loaded`: the run is that of `run_ready`, and what is said before it changes neither its status nor its output.
use Rattle.std.proofs.Common.{inr, rules}
use Rattle.dp_cli.proofs.running.run_loaded.Goals as goal

pub returns-in-Ok : goal.returns-in-Ok
returns-in-Ok g c = inr (search rules, (c.in-Ok.reply, c.in-Ok.ensures, c.after.ensures.0, c.after.ensures.1))
