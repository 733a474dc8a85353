use Rattle.std.proofs.Common.{rules}
use Rattle.dp_bench.proofs.Packets.{front_kept}
use Rattle.dp_bench.proofs.mbufs.all_fronted.Goals as goal

pub fronted-requires : goal.fronted-requires
fronted-requires c = front_kept c.args.m.now.store c.loop.m.store c.args.packet.now 16 c.loop.invariant.same.0 (c.has_front.ensures (search rules))
