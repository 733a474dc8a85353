use Rattle.dp_bench.proofs.Packets.{alloc_back}
use Rattle.std.proofs.Common.{◌∙◌}
use Rattle.dp_model.specs.Laws.Stores.{alloc_live}
use Rattle.dp_bench.proofs.mbufs.taken.Goals as goal

pub free-requires : goal.free-requires
free-requires c = alloc_live c.args.m.now.store c.alloc.new.self.store 0 c.in-Some.packet c.in-Some.ensures.packets

pub returns-in-Some : goal.returns-in-Some
returns-in-Some c =
    let back = alloc_back c.args.m.now.store c.alloc.new.self.store 0 c.in-Some.packet c.in-Some.ensures.packets c.free.new.self.store c.free.ensures.packets in
    (back.0, back.1, c.free.ensures.zones ∙ c.alloc.ensures.zones)
