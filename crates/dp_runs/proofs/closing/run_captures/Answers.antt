-- The run, and its outputs written out.
use Rattle.dp_runs.proofs.Devices.{all_fared, all_sound, calls_kept}
use Rattle.dp_runs.proofs.closing.run_captures.Goals as goal

pub returns : goal.returns
returns g c =
    let ran = c.run_watched-answer.ensures in
    record {
      answer = c.run_watched-answer.result;
      held = c.run_watched-answer.new.outs;
      promise = ran.promise;
      unwatched = ran.unwatched;
      shown = ran.shown;
      flushed_is = c.flush_outputs.ensures.flushed;
      uncalled = calls_kept _ _ _ _ _ c.flush_outputs.ensures.health;
      sound = λ ok. all_sound _ _ _ _ _ c.flush_outputs.ensures.health (ran.promise.sound ok).1;
      writers = all_fared _ _ _ _ _ _ _ c.flush_outputs.ensures.health ran.promise.fared_writers;
    }
