-- The tailroom is what the last segment's offset and length leave of the data room.
use Rattle.std.proofs.Common.{arith}
use Rattle.dp_mbuf.proofs.Live.{same_store, live_object, last_object, last_room, tailroom_is_left}
use Rattle.dp_mbuf.proofs.mbufs.Mbufs.tailroom.Goals as goal

pub last_header-tail-requires-clause-first : goal.last_header-tail-requires-clause-first
last_header-tail-requires-clause-first c = live_object _ _ c.args.packet.now (same_store c.self.view_is) c.self.invariant c.requires

pub last_header-tail-requires-clause-last : goal.last_header-tail-requires-clause-last
last_header-tail-requires-clause-last c = last_object _ _ c.args.packet.now (same_store c.self.view_is) c.self.invariant c.requires

pub room-requires : goal.room-requires
room-requires c =
    omega (arith, c.pool.ensures, (last_room _ _ c.args.packet.now (same_store c.self.view_is) c.self.invariant c.requires _ c.last_header-tail.ensures).0)

pub overflow_sub-result : goal.overflow_sub-result
overflow_sub-result c =
    let room = rw c.pool.ensures at c.room.ensures in
    omega (arith, room, (last_room _ _ c.args.packet.now (same_store c.self.view_is) c.self.invariant c.requires _ c.last_header-tail.ensures).1)

pub overflow_sub-result-2 : goal.overflow_sub-result-2
overflow_sub-result-2 c =
    let room = rw c.pool.ensures at c.room.ensures in
    omega (arith, room, (last_room _ _ c.args.packet.now (same_store c.self.view_is) c.self.invariant c.requires _ c.last_header-tail.ensures).1)

pub returns : goal.returns
returns c =
    let room = rw c.pool.ensures at c.room.ensures in
    tailroom_is_left _ _ c.args.packet.now (same_store c.self.view_is) c.self.invariant _ _ c.last_header-tail.ensures room
