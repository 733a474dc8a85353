-- A number is written after an object's header, big-endian.
use Rattle.std.proofs.Common.{◌+◌, ◌≤◌, length, ◌∙◌, arith}
use Rattle.dp_model.specs.Arithmetic.{bytes_in, big_endian}
use Rattle.dp_model.specs.Environments.{room_at}
use Rattle.dp_model.specs.Laws.StepsWithin.{length_big_endian}
use Rattle.dp_mbuf.specs.Objects.{specs_of}
use Rattle.dp_mbuf.proofs.Spelled.{small_spelled}
use Rattle.dp_mbuf.proofs.ObjectCalls.{InSlot, in_slot, left_written, room_done}
use Rattle.dp_mbuf.proofs.objects.Objects.write_number.Goals as goal
use Rattle.dp_mbuf.proofs.objects.Objects.write_number.Goals.{After-from-2}

-- the pool at hand
hand : (c : After-from-2) → InSlot c.args.self.now c.args.n c.from.result c.from-2.result c.pool_mut-pool.result.now
hand c =
    in_slot _ _ c.self.view_is c.self.invariant c.args.n _ _ _ _ (c.from.ensures ∙ c.pool.ensures) (c.from-2.ensures ∙ c.index.ensures)
    c.requires.object c.pool_mut-pool.ensures.value

pub write_number-requires : goal.write_number-requires
write_number-requires c = omega (arith, c.requires.fits, (hand (goal.at.write_number-requires c).After-from-2).size, c.object_mut.ensures.size)

pub invariant_of-self : goal.invariant_of-self
invariant_of-self c =
    let s = hand (goal.at.invariant_of-self c).After-from-2 in
    let fit : c.args.at + length (big_endian (bytes_in c.args.width) c.args.number) ≤ room_at (specs_of c.args.self.now) c.args.n.pool =
    omega (arith, c.requires.fits, length_big_endian (bytes_in c.args.width) c.args.number) in
    (room_done _ _ c.self.view_is c.self.invariant c.args.n _ _ c.args.at (big_endian (bytes_in c.args.width) c.args.number) _ _ s
    (left_written c.pool_mut-pool.result.now _ (128 + c.args.at) (big_endian (bytes_in c.args.width) c.args.number) _ _
    c.object_mut.ensures.value c.object_mut.ensures.size c.object_mut.ensures.whole c.write_number.ensures
    (omega (arith, fit, s.size))) (small_spelled (bytes_in c.args.width) c.args.number) fit).0

pub returns : goal.returns
returns c =
    let s = hand (goal.at.returns c).After-from-2 in
    let fit : c.args.at + length (big_endian (bytes_in c.args.width) c.args.number) ≤ room_at (specs_of c.args.self.now) c.args.n.pool =
    omega (arith, c.requires.fits, length_big_endian (bytes_in c.args.width) c.args.number) in
    (room_done _ _ c.self.view_is c.self.invariant c.args.n _ _ c.args.at (big_endian (bytes_in c.args.width) c.args.number) _ _ s
    (left_written c.pool_mut-pool.result.now _ (128 + c.args.at) (big_endian (bytes_in c.args.width) c.args.number) _ _
    c.object_mut.ensures.value c.object_mut.ensures.size c.object_mut.ensures.whole c.write_number.ensures
    (omega (arith, fit, s.size))) (small_spelled (bytes_in c.args.width) c.args.number) fit).1
