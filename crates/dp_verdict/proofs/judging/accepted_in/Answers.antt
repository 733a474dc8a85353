-- One more node, and what the search alone does not find.
use Rattle.std.proofs.Common.{◌∙◌, ap, arith}
use Rattle.std.proofs.lemmas.Grind.{common_steps}
use Rattle.dp_model.specs.declared.env.Entry.{Entry}
use Rattle.dp_verdict.specs.Checks.{accepted, accepted_at}
use Rattle.dp_verdict.proofs.Saying.{map_next}
use Rattle.dp_verdict.proofs.judging.accepted_in.Goals as goal

pub loop-k-preserved : goal.loop-k-preserved
loop-k-preserved c =
    map_next accepted c.args.pipeline.now.nodes c.loop-k.k c.node.result.now c.loop-k.nodes.items c.push.new.self.items _ c.node.ensures.node
    c.loop-k.invariant c.in-Ok.ensures.items (c.plain.ensures ∙ ap (λ (e : Entry). accepted_at e) c.entry-node.ensures)

pub returns : goal.returns
returns c = grind (arith, common_steps)
