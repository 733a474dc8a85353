use Rattle.dp_bench.proofs.Packets.{some_kept}
use Rattle.dp_bench.proofs.mbufs.all_taken.Goals as goal

pub taken-requires : goal.taken-requires
taken-requires c = some_kept c.args.m.now.store c.loop.m.store c.loop.invariant.same.1 c.requires
