-- Runs under a watcher.
use Rattle.std.specs.Prelude.{◌≡◌, ℕ, List, Option, ⊤}
use Rattle.dp_runs.specs.declared.closing.Flushed.{Flushed}
use Rattle.dp_runs.specs.Runs.{IsRun}
use Rattle.dp_counts.specs.Counting.{counts_see}
use Rattle.dp_counts.specs.declared.losses.Losses.{Losses as LossCounts}
use Rattle.dp_engine.specs.Watching.{Event}
use Rattle.dp_engine.specs.declared.watch.Silent.{Silent as Nobody}
use Rattle.dp_load.specs.Pipelines.{Plan}
use Rattle.dp_pipe.specs.Devices.{Kind}
use Rattle.dp_runs.specs.declared.run.Watcher.{Watcher}
use Rattle.dp_runs.specs.declared.run.Watcher.TheVariants.{Silent, Losses, Counting}

-- nothing is known of what a watcher was shown
abbrev pub anything : {V : Type 0} → V → Event → V → Type 0
anything v e v' = ⊤

-- A run of a pipeline over its captures. Where instructions were counted, the counts are of the turns of that run, and the sources of its programs stay.
abbrev pub IsRunUnder : {I O : Type 0} → Watcher → Watcher → Plan → List ℕ → Kind I → List I → List I → Kind O → (O → Option (List ℕ)) → List O → List O
    → Flushed → Type 0
IsRunUnder (Silent v) (Silent v') p pattern feeds ins ins' sinks taken outs outs' flushed =
    IsRun (anything {V = Nobody}) v v' p pattern feeds ins ins' sinks taken outs outs' flushed
IsRunUnder (Losses v) (Losses v') p pattern feeds ins ins' sinks taken outs outs' flushed =
    IsRun (anything {V = LossCounts}) v v' p pattern feeds ins ins' sinks taken outs outs' flushed
IsRunUnder (Counting c) (Counting c') p pattern feeds ins ins' sinks taken outs outs' flushed =
    IsRun counts_see c.counts c'.counts p pattern feeds ins ins' sinks taken outs outs' flushed × (c'.sources ≡ c.sources)
IsRunUnder before after p pattern feeds ins ins' sinks taken outs outs' flushed = ⊥
