-- `run_file`: the pipeline that was loaded is run over the captures and with the refused calls that the words give.
use Rattle.std.proofs.Common.{inl, inr}
use Rattle.dp_cli.proofs.running.run_file.Goals as goal

pub returns-in-Ok : goal.returns-in-Ok
returns-in-Ok g c = inr (_, _, _, (c.in_ok-pattern.ensures.calls, c.in_ok-given.ensures.given), inr (_, c.in-Ok.ensures.loaded, c.run_loaded.ensures))

-- its words are right, and its pipeline is not loaded
pub returns-in-Err : goal.returns-in-Err
returns-in-Err g c =
    inr (_, _, _, (c.in_ok-pattern.ensures.calls, c.in_ok-given.ensures.given), inl (_, c.in-Err.ensures.stops, rw (c.take_stdout.ensures) at c.aside.ensures))
