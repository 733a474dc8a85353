use Rattle.std.proofs.Common.{Some, subst}
use Rattle.dp_load.specs.declared.nodes.How.TheVariants.{Given}
use Rattle.dp_load.specs.Listed.{listed}
use Rattle.dp_load.specs.Loads.{IsLoadedFrom}
use Rattle.dp_host.proofs.host.started.Goals as goal

pub returns-in-Ok-running_of-clause-ok : goal.returns-in-Ok-running_of-clause-ok
returns-in-Ok-running_of-clause-ok c = record {
  files = c.in-Ok.files.items;
  are_packed = c.in-Ok.ensures.ok;
  plan = c.in-Ok-load.pipeline;
  loaded = subst (λ l. IsLoadedFrom (Some (listed l)) Given c.args.toml.now c.in-Ok-load.pipeline) c.as_slice.ensures.value c.in-Ok-load.ensures.loaded;
  holds = c.in-Ok-running_of.ensures.ok;
}
