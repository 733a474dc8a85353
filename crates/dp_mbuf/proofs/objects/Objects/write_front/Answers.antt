-- Bytes are written into an object's header.
use Rattle.std.proofs.Common.{rules, ◌∙◌, arith}
use Rattle.dp_mbuf.proofs.ObjectCalls.{are, InSlot, in_slot, front_done}
use Rattle.dp_mbuf.proofs.ObjectLemmas.{object_long}
use Rattle.dp_mbuf.proofs.objects.Objects.write_front.Goals as goal
use Rattle.dp_mbuf.proofs.objects.Objects.write_front.Goals.{After-from-2}

-- the pool at hand
hand : (c : After-from-2) → InSlot c.args.self.now c.args.n c.from.result c.from-2.result c.pool_mut-pool.result.now
hand c =
    in_slot _ _ c.self.view_is c.self.invariant c.args.n _ _ _ _ (c.from.ensures ∙ c.pool.ensures) (c.from-2.ensures ∙ c.index.ensures)
    c.requires.object c.pool_mut-pool.ensures.value

pub write-requires-clause-fits : goal.write-requires-clause-fits
write-requires-clause-fits c = omega (arith, c.requires.front, (hand (goal.at.write-requires-clause-fits c).After-from-2).size)

pub invariant_of-self : goal.invariant_of-self
invariant_of-self c =
    (front_done _ _ c.self.view_is c.self.invariant c.args.n _ _ c.args.at c.args.bytes.now _ c.write.new.self
    (hand (goal.at.invariant_of-self c).After-from-2) c.write.ensures (search rules) c.requires.front).0

pub returns-clause-long : goal.returns-clause-long
returns-clause-long c = object_long _ _ (are _ _ c.self.view_is c.self.invariant) c.requires.object

pub returns-clause-written : goal.returns-clause-written
returns-clause-written c =
    (front_done _ _ c.self.view_is c.self.invariant c.args.n _ _ c.args.at c.args.bytes.now _ c.write.new.self
    (hand (goal.at.returns-clause-written c).After-from-2) c.write.ensures (search rules) c.requires.front).1
