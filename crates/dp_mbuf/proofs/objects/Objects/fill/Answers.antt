-- A header and bytes after it are written into one object.
use Rattle.std.proofs.Common.{rules, ◌+◌, ◌∙◌, sym, arith}
use Rattle.dp_mbuf.proofs.Slots.{listed as slot_listed, below as slot_below, filled as slot_filled}
use Rattle.dp_mbuf.proofs.ObjectCalls.{InSlot, in_slot}
use Rattle.dp_mbuf.proofs.SettingFirst.{left_twice}
use Rattle.dp_mbuf.proofs.Both.{both_done}
use Rattle.dp_mbuf.proofs.objects.Objects.fill.Goals as goal
use Rattle.dp_mbuf.proofs.objects.Objects.fill.Goals.{After-from-2}

-- the pool at hand
hand : (c : After-from-2) → InSlot c.args.self.now c.args.n c.from.result c.from-2.result c.pool_mut-pool.result.now
hand c =
    in_slot _ _ c.self.view_is c.self.invariant c.args.n _ _ _ _ (c.from.ensures ∙ sym c.requires.pool) (c.from-2.ensures ∙ c.index.ensures)
    c.requires.object c.pool_mut-pool.ensures.value

pub listed : goal.listed
listed c = slot_listed _ _ c.args.n _ _ c.self.view_is c.self.invariant c.requires.object c.from.ensures (sym c.requires.pool)

pub bounds-self-inside-from : goal.bounds-self-inside-from
bounds-self-inside-from c = slot_below _ _ c.args.n _ _ c.self.view_is c.self.invariant c.requires.object c.from.ensures (sym c.requires.pool)

pub pool_mut-pool-requires : goal.pool_mut-pool-requires
pool_mut-pool-requires c = slot_filled _ _ c.args.n _ _ c.self.view_is c.self.invariant c.requires.object c.from.ensures (sym c.requires.pool) _

pub object_mut-object-requires : goal.object_mut-object-requires
object_mut-object-requires c = (hand (goal.at.object_mut-object-requires c).After-from-2).below

pub write_both-requires-clause-header : goal.write_both-requires-clause-header
write_both-requires-clause-header c =
    omega (arith, (hand (goal.at.write_both-requires-clause-header c).After-from-2).size, c.object_mut-object.ensures.size, c.bytes_of_header.ensures.many)

pub write_both-requires-clause-fits : goal.write_both-requires-clause-fits
write_both-requires-clause-fits c =
    omega (arith, (hand (goal.at.write_both-requires-clause-fits c).After-from-2).size, c.object_mut-object.ensures.size, c.requires.fits)

pub invariant_of-self : goal.invariant_of-self
invariant_of-self c =
    let s = hand (goal.at.invariant_of-self c).After-from-2 in
    (both_done _ _ c.self.view_is c.self.invariant c.args.n c.args.h _ _ _ c.args.at c.args.bytes.now _ _ s
    (left_twice c.pool_mut-pool.result.now _ 0 (128 + c.args.at) c.bytes_of_header.result c.args.bytes.now _ _ s.below
    c.object_mut-object.ensures.value c.object_mut-object.ensures.size c.object_mut-object.ensures.whole
    c.write_both.ensures (omega (arith, s.size, c.bytes_of_header.ensures.many)) (omega (arith, s.size, c.requires.fits)))
    c.bytes_of_header.ensures.bytes (search rules) (search rules) c.requires.fits).0

pub returns-clause-both : goal.returns-clause-both
returns-clause-both c =
    let s = hand (goal.at.returns-clause-both c).After-from-2 in
    (both_done _ _ c.self.view_is c.self.invariant c.args.n c.args.h _ _ _ c.args.at c.args.bytes.now _ _ s
    (left_twice c.pool_mut-pool.result.now _ 0 (128 + c.args.at) c.bytes_of_header.result c.args.bytes.now _ _ s.below
    c.object_mut-object.ensures.value c.object_mut-object.ensures.size c.object_mut-object.ensures.whole
    c.write_both.ensures (omega (arith, s.size, c.bytes_of_header.ensures.many)) (omega (arith, s.size, c.requires.fits)))
    c.bytes_of_header.ensures.bytes (search rules) (search rules) c.requires.fits).1
