use Rattle.std.proofs.Common.{◌<◌, ◌∙◌, length, ap, sym, arith}
use Rattle.dp_engine.specs.Queues.{QueuesView, ring_at, is_waiting}
use Rattle.dp_engine.proofs.Firsts.{first_slot, first_waits}
use Rattle.dp_engine.proofs.queues.Queues.first_waiting.Goals as goal

pub returns-then-self-len-clause-waits : goal.returns-then-self-len-clause-waits
returns-then-self-len-clause-waits c =
    let rings = c.self.inside.rings in
    let there : first_slot rings < length rings = omega (arith, c.if-self-len.true, c.self.invariant.0, c.len.ensures.value) in
    ap (λ (q : QueuesView). is_waiting (ring_at q.rings c.self.inside.first)) (sym c.self.view_is)
    ∙ (ap (λ k. is_waiting (ring_at rings k)) c.self.invariant.0 ∙ first_waits rings there)
