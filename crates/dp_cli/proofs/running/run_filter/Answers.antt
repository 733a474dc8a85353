-- `run_filter`: the program is run on the port that the words give.
use Rattle.std.proofs.Common.{inr, rules}
use Rattle.dp_cli.proofs.running.run_filter.Goals as goal

pub returns : goal.returns
returns g c = inr (_, c.in_ok-env.env, c.region_for.result, search rules, c.in_ok-env.ensures.port, c.run_single.ensures)
