use Rattle.std.proofs.Common.{subst, refl, arith}
use Rattle.dp_model.specs.Packets.{Packet}
use Rattle.dp_model.specs.Machine.{Holds}
use Rattle.dp_model.specs.Laws.Lists.{get_within}
use Rattle.dp_engine.specs.Handles.{Core}
use Rattle.dp_engine.specs.Shapes.{IsSegmentOf}
use Rattle.dp_engine.proofs.view.View.segment.Goals as goal

pub returns-clause-some : goal.returns-clause-some
returns-clause-some c =
    let (k, holds) = c.if-not-holds.ensures.some refl in
    let (s, here) = get_within k c.args.index (omega (arith, c.segments.ensures k holds, c.if-segments-index.false)) in
    subst (λ (core : Core). (k : Packet) × Holds core.state c.args.p k × IsSegmentOf core k c.args.index c.segment_bytes.result.now c.segment_refs.result)
    c.self.view_is (k, holds, (s, here, c.segment_bytes.ensures k s holds here, c.segment_refs.ensures k s holds here))
