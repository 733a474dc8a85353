-- The words are the header's number of segments and last mbuf.
use Rattle.std.proofs.Common.{◌∙◌, arith, []}
use Rattle.dp_mbuf.specs.Headers.{then_word}
use Rattle.dp_mbuf.proofs.ObjectCalls.{InSlot, in_slot}
use Rattle.dp_mbuf.proofs.SettingFirst.{left_twice, segs_and_last_done}
use Rattle.dp_mbuf.proofs.objects.Objects.set_segs_and_last.Goals as goal
use Rattle.dp_mbuf.proofs.objects.Objects.set_segs_and_last.Goals.{After-from-2}

-- the pool at hand
hand : (c : After-from-2) → InSlot c.args.self.now c.args.n c.from.result c.from-2.result c.pool_mut-pool.result.now
hand c =
    in_slot _ _ c.self.view_is c.self.invariant c.args.n _ _ _ _ (c.from.ensures ∙ c.pool.ensures) (c.from-2.ensures ∙ c.index.ensures) c.requires
    c.pool_mut-pool.ensures.value

pub write_segs_and_last-requires : goal.write_segs_and_last-requires
write_segs_and_last-requires c = omega (arith, (hand (goal.at.write_segs_and_last-requires c).After-from-2).size, c.object_mut.ensures.size)

pub invariant_of-self : goal.invariant_of-self
invariant_of-self c =
    let s = hand (goal.at.invariant_of-self c).After-from-2 in
    (segs_and_last_done _ _ c.self.view_is c.self.invariant c.args.n _ _ c.args.segs c.args.last _ _ s
    (left_twice c.pool_mut-pool.result.now _ 0 14 (then_word c.args.segs []) (then_word c.args.last.index (then_word c.args.last.pool []))
    _ _ s.below
    c.object_mut.ensures.value c.object_mut.ensures.size c.object_mut.ensures.whole c.write_segs_and_last.ensures.object
    (omega (arith, s.size)) (omega (arith, s.size))) c.ranges.segs.fits c.write_segs_and_last.ensures.small).0

pub returns : goal.returns
returns c =
    let s = hand (goal.at.returns c).After-from-2 in
    (segs_and_last_done _ _ c.self.view_is c.self.invariant c.args.n _ _ c.args.segs c.args.last _ _ s
    (left_twice c.pool_mut-pool.result.now _ 0 14 (then_word c.args.segs []) (then_word c.args.last.index (then_word c.args.last.pool []))
    _ _ s.below
    c.object_mut.ensures.value c.object_mut.ensures.size c.object_mut.ensures.whole c.write_segs_and_last.ensures.object
    (omega (arith, s.size)) (omega (arith, s.size))) c.ranges.segs.fits c.write_segs_and_last.ensures.small).1
