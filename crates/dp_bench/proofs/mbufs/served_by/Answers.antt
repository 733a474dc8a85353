use Rattle.std.proofs.Common.{◌∙◌}
use Rattle.dp_model.specs.Laws.Stores.{alloc_live}
use Rattle.dp_bench.proofs.Packets.{alloc_pools, live_kept, some_kept, room_kept, returned}
use Rattle.dp_bench.proofs.mbufs.served_by.Goals as goal

pub served_beside-served-requires-clause-live : goal.served_beside-served-requires-clause-live
served_beside-served-requires-clause-live c = alloc_live c.args.m.now.store c.alloc.new.self.store 0 c.in-Some.packet c.in-Some.ensures.packets

pub served_beside-served-requires-clause-pools : goal.served_beside-served-requires-clause-pools
served_beside-served-requires-clause-pools c = some_kept c.args.m.now.store c.alloc.new.self.store
    (alloc_pools c.args.m.now.store c.alloc.new.self.store 0 c.in-Some.packet c.in-Some.ensures.packets) c.requires.pools

pub served_beside-served-requires-clause-room : goal.served_beside-served-requires-clause-room
served_beside-served-requires-clause-room c = room_kept c.args.m.now.store c.alloc.new.self.store
    (alloc_pools c.args.m.now.store c.alloc.new.self.store 0 c.in-Some.packet c.in-Some.ensures.packets) c.requires.room

pub free-requires : goal.free-requires
free-requires c =
    live_kept c.alloc.new.self.store c.served_beside-served.new.m.store c.in-Some.packet c.served_beside-served.ensures.same.0
    (alloc_live c.args.m.now.store c.alloc.new.self.store 0 c.in-Some.packet c.in-Some.ensures.packets)

pub returns-clause-same : goal.returns-clause-same
returns-clause-same c =
    let (slots, pools, zones) = c.served_beside-served.ensures.same in
    let back = returned c.args.m.now.store c.alloc.new.self.store c.served_beside-served.new.m.store c.free.new.self.store 0 c.in-Some.packet
    c.in-Some.ensures.packets slots pools c.free.ensures.packets in
    (back.0, back.1, c.free.ensures.zones ∙ (zones ∙ c.alloc.ensures.zones))
