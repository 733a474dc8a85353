-- Two words are written into an object's header.
use Rattle.std.proofs.Common.{◌∙◌, arith, []}
use Rattle.dp_mbuf.specs.Headers.{then_word}
use Rattle.dp_mbuf.proofs.HeaderFields.{small_words}
use Rattle.dp_mbuf.proofs.ObjectCalls.{are, InSlot, in_slot, left_written, front_done}
use Rattle.dp_mbuf.proofs.ObjectLemmas.{object_long}
use Rattle.dp_mbuf.proofs.objects.Objects.write_pair.Goals as goal
use Rattle.dp_mbuf.proofs.objects.Objects.write_pair.Goals.{After-from-2}

-- the pool at hand
hand : (c : After-from-2) → InSlot c.args.self.now c.args.n c.from.result c.from-2.result c.pool_mut-pool.result.now
hand c =
    in_slot _ _ c.self.view_is c.self.invariant c.args.n _ _ _ _ (c.from.ensures ∙ c.pool.ensures) (c.from-2.ensures ∙ c.index.ensures)
    c.requires.object c.pool_mut-pool.ensures.value

pub write_words-requires : goal.write_words-requires
write_words-requires c = omega (arith, c.requires.front, (hand (goal.at.write_words-requires c).After-from-2).size, c.object_mut.ensures.size)

pub invariant_of-self : goal.invariant_of-self
invariant_of-self c =
    let s = hand (goal.at.invariant_of-self c).After-from-2 in
    (front_done _ _ c.self.view_is c.self.invariant c.args.n _ _ c.args.at (then_word c.args.x (then_word c.args.y [])) _ _ s
    (left_written c.pool_mut-pool.result.now _ c.args.at (then_word c.args.x (then_word c.args.y [])) _ _
    c.object_mut.ensures.value c.object_mut.ensures.size c.object_mut.ensures.whole c.write_words.ensures
    (omega (arith, c.requires.front, s.size)))
    (small_words c.args.x c.args.y c.ranges.x.fits c.ranges.y.fits) c.requires.front).0

pub returns-clause-long : goal.returns-clause-long
returns-clause-long c = object_long _ _ (are _ _ c.self.view_is c.self.invariant) c.requires.object

pub returns-clause-written : goal.returns-clause-written
returns-clause-written c =
    let s = hand (goal.at.returns-clause-written c).After-from-2 in
    (front_done _ _ c.self.view_is c.self.invariant c.args.n _ _ c.args.at (then_word c.args.x (then_word c.args.y [])) _ _ s
    (left_written c.pool_mut-pool.result.now _ c.args.at (then_word c.args.x (then_word c.args.y [])) _ _
    c.object_mut.ensures.value c.object_mut.ensures.size c.object_mut.ensures.whole c.write_words.ensures
    (omega (arith, c.requires.front, s.size)))
    (small_words c.args.x c.args.y c.ranges.x.fits c.ranges.y.fits) c.requires.front).1
