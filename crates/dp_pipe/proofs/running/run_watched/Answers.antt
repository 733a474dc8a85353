-- `run_watched`: the result, as the laws of runs have it for a pipeline that is ready.
use Rattle.std.proofs.Common.{◌∙◌}
use Rattle.std.proofs.lemmas.List.{length-map}
use Rattle.dp_pipe.specs.Devices.{seen}
use Rattle.dp_pipe.proofs.Headline.{all_forwarded}
use Rattle.dp_pipe.proofs.PacketRuns.{IsReady, is_ready}
use Rattle.dp_pipe.proofs.Stopped.{all_stopped, no_room_so}
use Rattle.dp_pipe.proofs.running.run_watched.Goals as goal
use Rattle.dp_pipe.proofs.running.run_watched.Goals.{After-answer}

ready : (g : _) (c : After-answer g) → IsReady c.args.pipeline c.args.pattern.items
ready g c =
    is_ready c.args.pipeline c.args.pattern.items c.answer.ensures.plan
    (record { safe = c.runs_keep_safe.ensures; copies = c.clones_are_copies.ensures })

pub returns-clause-promise : goal.returns-clause-promise
returns-clause-promise g c =
    let is = ready g (goal.at.returns-clause-promise g c).After-answer in
    let writers = length-map c.args.outs.now (seen g.W.Sink.contents g.W.Sink.calls) ∙ c.requires.writers in
    let answers = c.answer.ensures.answers in
    record {
      forwarded = all_forwarded c.answer.result is answers;
      stopped = all_stopped is c.requires.pattern writers c.answer.result answers;
      no_room = no_room_so c.answer.result answers;
      untouched = c.answer.ensures.untouched;
      sound = c.answer.ensures.sound;
      fared_readers = c.answer.ensures.fared_readers;
      fared_writers = c.answer.ensures.fared_writers;
    }
