-- Zeros are written after an object's header, in its data room.
use Rattle.std.proofs.Common.{ℕ, ◌+◌, ◌≤◌, length, ◌∙◌, arith}
use Rattle.std.specs.Prelude.{replicate}
use Rattle.std.proofs.lemmas.List.{length-replicate}
use Rattle.dp_model.specs.Environments.{room_at}
use Rattle.dp_mbuf.specs.Objects.{specs_of}
use Rattle.dp_mbuf.proofs.PoolLemmas.{small_zeros}
use Rattle.dp_mbuf.proofs.ObjectCalls.{InSlot, in_slot, left_written, room_done}
use Rattle.dp_mbuf.proofs.objects.Objects.zero.Goals as goal
use Rattle.dp_mbuf.proofs.objects.Objects.zero.Goals.{After-from-2}

-- the pool at hand
hand : (c : After-from-2) → InSlot c.args.self.now c.args.n c.from.result c.from-2.result c.pool_mut-pool.result.now
hand c =
    in_slot _ _ c.self.view_is c.self.invariant c.args.n _ _ _ _ (c.from.ensures ∙ c.pool.ensures) (c.from-2.ensures ∙ c.index.ensures)
    c.requires.object c.pool_mut-pool.ensures.value

pub write_zeros-requires : goal.write_zeros-requires
write_zeros-requires c = omega (arith, c.requires.fits, (hand (goal.at.write_zeros-requires c).After-from-2).size, c.object_mut.ensures.size)

pub invariant_of-self : goal.invariant_of-self
invariant_of-self c =
    let s = hand (goal.at.invariant_of-self c).After-from-2 in
    let fit : c.args.at + length (replicate c.args.len 0) ≤ room_at (specs_of c.args.self.now) c.args.n.pool =
    omega (arith, c.requires.fits, length-replicate {A = ℕ}) in
    (room_done _ _ c.self.view_is c.self.invariant c.args.n _ _ c.args.at (replicate c.args.len 0) _ _ s
    (left_written c.pool_mut-pool.result.now _ (128 + c.args.at) (replicate c.args.len 0) _ _
    c.object_mut.ensures.value c.object_mut.ensures.size c.object_mut.ensures.whole c.write_zeros.ensures
    (omega (arith, fit, s.size))) (small_zeros c.args.len) fit).0

pub returns : goal.returns
returns c =
    let s = hand (goal.at.returns c).After-from-2 in
    let fit : c.args.at + length (replicate c.args.len 0) ≤ room_at (specs_of c.args.self.now) c.args.n.pool =
    omega (arith, c.requires.fits, length-replicate {A = ℕ}) in
    (room_done _ _ c.self.view_is c.self.invariant c.args.n _ _ c.args.at (replicate c.args.len 0) _ _ s
    (left_written c.pool_mut-pool.result.now _ (128 + c.args.at) (replicate c.args.len 0) _ _
    c.object_mut.ensures.value c.object_mut.ensures.size c.object_mut.ensures.whole c.write_zeros.ensures
    (omega (arith, fit, s.size))) (small_zeros c.args.len) fit).1
