-- An object without a packet goes back to its pool.
use Rattle.std.proofs.Common.{◌≡◌, ◌∙◌, sym, arith}
use Rattle.dp_mbuf.proofs.ObjectCalls.{InSlot, in_slot, in_row}
use Rattle.dp_mbuf.proofs.Ending.{end_done}
use Rattle.dp_mbuf.proofs.objects.Objects.end.Goals as goal
use Rattle.dp_mbuf.proofs.objects.Objects.end.Goals.{After-from-2}

-- the pool at hand
hand : (c : After-from-2) → InSlot c.args.self.now c.args.n c.from.result c.from-2.result c.pool_mut-pool.result.now
hand c =
    in_slot _ _ c.self.view_is c.self.invariant c.args.n _ _ _ _ (c.from.ensures ∙ c.pool.ensures) (c.from-2.ensures ∙ c.index.ensures)
    c.requires.object c.pool_mut-pool.ensures.value

pub clear-requires-clause-fits : goal.clear-requires-clause-fits
clear-requires-clause-fits c = omega (arith, (hand (goal.at.clear-requires-clause-fits c).After-from-2).size)

pub put-requires : goal.put-requires
put-requires c =
    let s = hand (goal.at.put-requires c).After-from-2 in
    let same : c.from-3.result ≡ c.from-2.result = c.from-3.ensures ∙ (c.index-2.ensures ∙ sym s.index) in
    rw (c.clear.ensures, same) (in_row _ _ c.self.view_is c.self.invariant c.args.n _ _ _ s c.requires.out)

pub invariant_of-self : goal.invariant_of-self
invariant_of-self c =
    let s = hand (goal.at.invariant_of-self c).After-from-2 in
    (end_done _ _ c.self.view_is c.self.invariant c.args.n _ _ _ _ _ c.put.new.self s c.clear.ensures c.put.ensures
    (c.from-3.ensures ∙ c.index-2.ensures) c.requires.out).0

pub returns : goal.returns
returns c =
    let s = hand (goal.at.returns c).After-from-2 in
    (end_done _ _ c.self.view_is c.self.invariant c.args.n _ _ _ _ _ c.put.new.self s c.clear.ensures c.put.ensures
    (c.from-3.ensures ∙ c.index-2.ensures) c.requires.out).1
