use Rattle.dp_bench.proofs.Packets.{some_kept, room_kept}
use Rattle.dp_bench.proofs.mbufs.all_received.Goals as goal

pub received-requires-clause-pools : goal.received-requires-clause-pools
received-requires-clause-pools c = some_kept c.args.m.now.store c.loop.m.store c.loop.invariant.same.1 c.requires.pools

pub received-requires-clause-room : goal.received-requires-clause-room
received-requires-clause-room c = room_kept c.args.m.now.store c.loop.m.store c.loop.invariant.same.1 c.requires.room
