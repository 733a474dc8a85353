-- `inferred`: the node is that of WHICH.
use Rattle.std.proofs.Common.{◌∙◌, inr, sym}
use Rattle.dp_cli.proofs.judging.inferred.Goals as goal

pub returns : goal.returns
returns g c = inr (
  c.in_ok-node.node,
  sym c.word.ensures ∙ c.in_ok-node.ensures.named,
  (c.in_ok-loaded.loaded.pipeline, c.in_ok-loaded.ensures.loaded, c.infer.ensures),
)
