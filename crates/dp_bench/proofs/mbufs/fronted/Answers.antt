use Rattle.std.proofs.Common.{◌∙◌, arith}
use Rattle.dp_bench.proofs.Packets.{front_long, front_back}
use Rattle.dp_bench.proofs.mbufs.fronted.Goals as goal

pub adj-requires : goal.adj-requires
adj-requires c = front_long c.args.m.now.store c.prepend.new.self.store c.args.packet.now 16 (omega arith) c.requires c.prepend.ensures.packets

pub returns : goal.returns
returns c =
    let back = front_back c.args.m.now.store c.prepend.new.self.store c.args.packet.now 16 (omega arith) c.requires c.prepend.ensures.packets
    c.adj.new.self.store c.adj.ensures.packets in
    (back.0, back.1, c.adj.ensures.zones ∙ c.prepend.ensures.zones)
