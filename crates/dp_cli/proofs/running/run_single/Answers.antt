-- `run_single`: the pipeline of one port is run over the two captures that are named.
use Rattle.std.proofs.Common.{inl, inr}
use Rattle.dp_sources.specs.Sources.{files_of}
use Rattle.dp_cli.proofs.running.run_single.Goals as goal

pub returns : goal.returns
returns g c = inr (
  _,
  _,
  (c.in-Ok.ensures.inputs, c.in-Ok.ensures.outputs),
  inr (
    files_of c.in_ok-sources.sources,
    c.in-Ok-load_single.pipeline,
    rw (← c.copy.ensures.same) c.in-Ok-load_single.ensures.loaded,
    rw (c.new-pattern.ensures.items) at c.run_ready.ensures,
  ),
)

-- the program is not loaded
pub returns-in-Err : goal.returns-in-Err
returns-in-Err g c = inr (
  _,
  _,
  (c.in-Ok.ensures.inputs, c.in-Ok.ensures.outputs),
  inl (
    c.unloaded-reply.result,
    (
      files_of c.in_ok-sources.sources,
      c.in-Err.error,
      rw (← c.copy.ensures.same) c.in-Err.ensures.fails,
      (c.flag.result, c.unloaded-reply.ensures.says, c.unloaded-reply.ensures.not_done),
    ),
    rw (c.take_stdout.ensures) at c.aside.ensures,
  ),
)
