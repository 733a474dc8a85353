-- `answer`: the watcher was shown the turns of the engine that was opened.
use Rattle.std.proofs.Common.{inr}
use Rattle.dp_pipe.proofs.running.answer.Goals as goal

pub returns-in-Ok-clause-shown : goal.returns-in-Ok-clause-shown
returns-in-Ok-clause-shown g c =
    let (last, shown, reported) = c.run_through.ensures.shown in
    inr (inr (record {
      first = c.in-Ok.engine;
      is_first = c.in-Ok.ensures.engine;
      last = last;
      shown = shown;
      progress = _;
      reported = reported;
    }))
