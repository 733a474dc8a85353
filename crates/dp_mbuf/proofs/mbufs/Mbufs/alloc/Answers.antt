-- A free object becomes a packet of one segment, or none is free and nothing changes.
use Rattle.std.proofs.Common.{ap, ◌∙◌, arith}
use Rattle.std.proofs.lemmas.Grind.{common_steps}
use Rattle.std.specs.Prelude.{min}
use Rattle.dp_mbuf.proofs.Live.{same_store}
use Rattle.dp_mbuf.proofs.Allocs.{alloc_none, alloc_some, same_min}
use Rattle.dp_mbuf.proofs.mbufs.Mbufs.alloc.Goals as goal

pub returns-in_err-mbuf-clause-packets : goal.returns-in_err-mbuf-clause-packets
returns-in_err-mbuf-clause-packets c =
    rw c.from_residual.ensures (alloc_none _ _ _ c.args.pool (same_store c.self.view_is) c.self.invariant c.requires c.in_err-mbuf.ensures.0
    c.in_err-mbuf.ensures.1)

pub invariant_of-self-2 : goal.invariant_of-self-2
invariant_of-self-2 c =
    let set = rw c.fresh_header-header.ensures at c.set_header.ensures in
    let room = rw c.pool.ensures at c.room.ensures in
    (alloc_some _ _ _ _ c.args.pool c.in_ok-mbuf.mbuf _ _ (same_store c.self.view_is) c.self.invariant c.requires c.in_ok-mbuf.ensures.0
    c.in_ok-mbuf.ensures.1 set (c.min-offset.ensures ∙ (same_min _ 128 ∙ ap (min 128) room)) c.packet_of.ensures).0

pub returns-clause-packets : goal.returns-clause-packets
returns-clause-packets c =
    let set = rw c.fresh_header-header.ensures at c.set_header.ensures in
    let room = rw c.pool.ensures at c.room.ensures in
    (alloc_some _ _ _ _ c.args.pool c.in_ok-mbuf.mbuf _ _ (same_store c.self.view_is) c.self.invariant c.requires c.in_ok-mbuf.ensures.0
    c.in_ok-mbuf.ensures.1 set (c.min-offset.ensures ∙ (same_min _ 128 ∙ ap (min 128) room)) c.packet_of.ensures).1

pub overflow_cast-pool : goal.overflow_cast-pool
overflow_cast-pool c = grind (arith, common_steps)

pub take-requires : goal.take-requires
take-requires c = grind (arith, common_steps)

pub room-requires : goal.room-requires
room-requires c = grind (arith, common_steps)

pub set_header-requires : goal.set_header-requires
set_header-requires c = grind (arith, common_steps)
