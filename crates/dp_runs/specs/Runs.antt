-- A run of a pipeline over its captures, once its outputs are written out.
use Rattle.std.specs.Prelude.{◌≡◌, ◌⊎◌, List, Option, ℕ, Result, Err, IfErr, IsOk, map}
use Rattle.dp_engine.specs.Watching.{Event}
use Rattle.dp_engine.specs.declared.report.Report.{Report}
use Rattle.dp_pipe.specs.declared.forwarding.RunCause.TheVariants.{Memory, NoRoom}
use Rattle.dp_pipe.specs.declared.running.RunFault.{RunFault}
use Rattle.dp_pipe.specs.Devices.{AllFared, AllSound, Kind, devices, failed_writer}
use Rattle.dp_pipe.specs.Headline.{RunPromise}
use Rattle.dp_load.specs.Pipelines.{Plan}
use Rattle.dp_pipe.specs.Running.{answer_of}
use Rattle.dp_pipe.specs.Watched.{WatchesRun}
use Rattle.dp_runs.specs.declared.closing.Flushed.{Flushed}
use Rattle.dp_runs.specs.Closing.{IsFlushed}

-- A run of a pipeline with these calls refused, from inputs to outputs: the bytes that each input had and has left, those that each output had before and
-- those that its file took once everything is written out, the events that the watcher was shown, which devices failed, and the result.
pub record IsRun {V I O : Type 0} (sees : V → Event → V → Type 0) (v v' : V) (p : Plan) (pattern : List ℕ) (feeds : Kind I) (ins ins' : List I)
    (sinks : Kind O) (taken : O → Option (List ℕ)) (outs outs' : List O) (flushed : Flushed) : Type 0 where
  -- the result of the run before its outputs were written out, and the outputs then
  pub answer : Result Report RunFault
  pub held : List O
  pub promise : RunPromise p pattern feeds ins ins' sinks outs held answer
  pub unwatched : IfErr answer (λ (f : RunFault). (f.cause ≡ Memory) ⊎ (f.cause ≡ NoRoom) → v' ≡ v)
  pub shown : (answer_of answer ≡ Err Memory) ⊎ (answer_of answer ≡ Err NoRoom) ⊎ WatchesRun sees v v' p pattern (devices feeds ins) (devices feeds ins') answer
  -- the outputs are written out, which calls no output again
  pub flushed_is : IsFlushed (map sinks.bytes held) (map taken outs') answer flushed
  pub uncalled : map sinks.calls outs' ≡ map sinks.calls held
  -- afterwards none of them is broken where all went well; else the one that the result names failed in one call, the last of it, and no other did
  pub sound : IsOk answer → AllSound sinks.is_broken outs'
  pub writers : AllFared sinks.is_broken sinks.failures (failed_writer (answer_of answer)) outs outs'
