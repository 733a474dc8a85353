use Rattle.dp_bench.proofs.Packets.{some_kept, live_kept}
use Rattle.dp_bench.proofs.mbufs.all_cloned.Goals as goal

pub cloned-requires-clause-pools : goal.cloned-requires-clause-pools
cloned-requires-clause-pools c = some_kept c.args.m.now.store c.loop.m.store c.loop.invariant.same.1 c.requires.pools

pub cloned-requires-clause-live : goal.cloned-requires-clause-live
cloned-requires-clause-live c = live_kept c.args.m.now.store c.loop.m.store c.args.packet.now c.loop.invariant.same.0 c.requires.live
