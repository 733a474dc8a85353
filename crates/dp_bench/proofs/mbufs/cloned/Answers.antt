use Rattle.dp_bench.proofs.Packets.{clone_live, clone_back}
use Rattle.std.proofs.Common.{◌∙◌}
use Rattle.dp_bench.proofs.mbufs.cloned.Goals as goal

pub free-requires : goal.free-requires
free-requires c = clone_live c.args.m.now.store c.clone_of.new.self.store c.args.packet.now 0 c.requires.live c.in-Some.clone c.in-Some.ensures.packets

pub returns-in-Some : goal.returns-in-Some
returns-in-Some c =
    let back = clone_back c.args.m.now.store c.clone_of.new.self.store c.args.packet.now 0 c.requires.live c.in-Some.clone c.in-Some.ensures.packets
    c.free.new.self.store c.free.ensures.packets in
    (back.0, back.1, c.free.ensures.zones ∙ c.clone_of.ensures.zones)
