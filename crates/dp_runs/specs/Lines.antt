-- A run on the command line.
use Rattle.std.specs.Prelude.{◌≡◌, ℕ, List, false, Option}
use Rattle.dp_runs.specs.declared.closing.Flushed.{Flushed}
use Rattle.dp_runs.specs.Runs.{IsRun}
use Rattle.dp_console.specs.declared.reply.Reply.{Reply}
use Rattle.dp_console.specs.Replies.{IsPrinted}
use Rattle.dp_engine.specs.declared.watch.Silent.{Silent}
use Rattle.dp_load.specs.Pipelines.{Plan}
use Rattle.dp_pipe.specs.Devices.{Kind}
use Rattle.dp_pipe.specs.Running.{answer_of}
use Rattle.dp_runs.specs.Replies.{IsReplied, status_of}
use Rattle.dp_runs.specs.Watching.{anything}

-- A pipeline was run over its captures, its report was printed on the first writer and why it stopped on the second, and this is the status; or a text
-- could not be written, 3, or there was no memory for it, 4.
pub record IsRunLine {I O : Type 0} (p : Plan) (pattern : List ℕ) (feeds : Kind I) (ins ins' : List I) (sinks : Kind O) (taken : O → Option (List ℕ))
    (outs outs' : List O) (out out' err err' : Option (List ℕ)) (status : ℕ) : Type 0 where
  pub flushed : Flushed
  pub before : Silent
  pub after : Silent
  pub run : IsRun (anything {V = Silent}) before after p pattern feeds ins ins' sinks taken outs outs' flushed
  pub reply : Reply
  pub said : IsReplied false false flushed.answer reply
  pub status_is : reply.status ≡ status_of (answer_of flushed.answer)
  pub printed : IsPrinted reply out out' err err' status
