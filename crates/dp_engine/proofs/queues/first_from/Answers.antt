use Rattle.std.proofs.Common.{◌∙◌, sym, arith}
use Rattle.dp_engine.specs.Queues.{ring_at}
use Rattle.dp_engine.proofs.Firsts.{within, stepped, here, idle_is, waits_is}
use Rattle.dp_engine.proofs.queues.first_from.Goals as goal

pub returns-then-count-ne0 : goal.returns-then-count-ne0
returns-then-count-ne0 c =
    here c.args.rings.now c.loop-k.k c.loop-k.invariant (omega (arith, c.loop-k-test.true, c.len-end.ensures.value))
    (waits_is (ring_at c.args.rings.now c.loop-k.k) (λ e. c.if-count-ne0.true (c.count.ensures.value ∙ e)))

pub loop-k-preserved : goal.loop-k-preserved
loop-k-preserved c =
    let idle = idle_is (ring_at c.args.rings.now c.loop-k.k) (sym c.count.ensures.value ∙ c.if-count-ne0.false) in
    let more = stepped c.args.rings.now c.loop-k.k c.loop-k.invariant (omega (arith, c.loop-k-test.true, c.len-end.ensures.value)) idle in
    omega (arith, more)

pub returns : goal.returns
returns c = omega (arith, c.loop-k.invariant, c.len-end.ensures.value, c.requires, c.loop-k.auto, c.loop-k-test.false, within c.args.rings.now)
