-- `idle_rings`: one more ring.
use Rattle.std.proofs.Common.{◌∙◌, sym, add-one}
use Rattle.dp_pipe.proofs.Heading.{same_more}
use Rattle.dp_pipe.proofs.running.idle_rings.Goals as goal

pub loop-spec-preserved : goal.loop-spec-preserved
loop-spec-preserved c = c.push.ensures.items ∙ rw (
  c.loop-spec.invariant,
  add-one,
) (sym (same_more (0) c.args.specs.now c.loop-spec._spec-index c.loop-spec-test.true))
