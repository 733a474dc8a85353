use Rattle.std.proofs.Common.{◌∙◌, sym}
use Rattle.dp_bench.proofs.Packets.{ready_one, back_one, new_room}
use Rattle.dp_bench.proofs.mbufs.served_in.Goals as goal

pub over-mbufs-requires : goal.over-mbufs-requires
over-mbufs-requires c = ready_one _ c.in-Some.pool c.in-Some.ensures.pool

pub unmake-requires : goal.unmake-requires
unmake-requires c =
    let (_, _, zones) = c.served_by-served.ensures.same in
    back_one c.make.new.heap.home c.in-Some.pool c.into_pools.result c.into_pools.type_inv.1.1.0.1 c.into_pools.ensures.first (c.into_pools.ensures.zones
    ∙ (zones ∙ c.over-mbufs.ensures.zones)) (c.in-Some.ensures.pool.home ∙ sym c.make.ensures.home)

pub served_by-served-requires-clause-room : goal.served_by-served-requires-clause-room
served_by-served-requires-clause-room c = new_room c.in-Some.pool c.over-mbufs.result c.over-mbufs.ensures c.in-Some.ensures.pool.size
