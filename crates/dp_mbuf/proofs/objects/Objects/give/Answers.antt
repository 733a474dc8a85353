-- An object that is out goes back to its pool.
use Rattle.std.proofs.Common.{◌∙◌}
use Rattle.dp_mbuf.proofs.Slots.{listed as slot_listed, below as slot_below, filled as slot_filled}
use Rattle.dp_mbuf.proofs.ObjectCalls.{InSlot, in_slot, out_object, in_row, give_done}
use Rattle.dp_mbuf.proofs.objects.Objects.give.Goals as goal
use Rattle.dp_mbuf.proofs.objects.Objects.give.Goals.{After-from-2}

-- the pool at hand
hand : (c : After-from-2) → InSlot c.args.self.now c.args.n c.from.result c.from-2.result c.pool_mut.result.now
hand c =
    in_slot _ _ c.self.view_is c.self.invariant c.args.n _ _ _ _ (c.from.ensures ∙ c.pool.ensures) (c.from-2.ensures ∙ c.index.ensures)
    (out_object _ _ c.self.view_is c.self.invariant c.args.n c.requires) c.pool_mut.ensures.value

pub listed : goal.listed
listed c =
    slot_listed _ _ c.args.n _ _ c.self.view_is c.self.invariant
    (out_object _ _ c.self.view_is c.self.invariant c.args.n c.requires) c.from.ensures c.pool.ensures

pub bounds-self-inside-from : goal.bounds-self-inside-from
bounds-self-inside-from c =
    slot_below _ _ c.args.n _ _ c.self.view_is c.self.invariant
    (out_object _ _ c.self.view_is c.self.invariant c.args.n c.requires) c.from.ensures c.pool.ensures

pub pool_mut-requires : goal.pool_mut-requires
pool_mut-requires c =
    slot_filled _ _ c.args.n _ _ c.self.view_is c.self.invariant
    (out_object _ _ c.self.view_is c.self.invariant c.args.n c.requires) c.from.ensures c.pool.ensures _

pub put-requires : goal.put-requires
put-requires c = in_row _ _ c.self.view_is c.self.invariant c.args.n _ _ _ (hand (goal.at.put-requires c).After-from-2) c.requires

pub invariant_of-self : goal.invariant_of-self
invariant_of-self c =
    (give_done _ _ c.self.view_is c.self.invariant c.args.n _ _ _ c.put.new.self (hand (goal.at.invariant_of-self c).After-from-2) c.put.ensures c.requires).0

pub returns : goal.returns
returns c =
    (give_done _ _ c.self.view_is c.self.invariant c.args.n _ _ _ c.put.new.self (hand (goal.at.returns c).After-from-2) c.put.ensures c.requires).1
