-- A free object becomes a packet of one segment with these bytes, or none is free and nothing changes.
use Rattle.std.proofs.Common.{arith}
use Rattle.dp_mbuf.proofs.Live.{same_store}
use Rattle.dp_mbuf.proofs.Both.{few_bytes, received_none, received_some}
use Rattle.dp_mbuf.proofs.mbufs.Mbufs.receive_one.Goals as goal

pub returns-in_err-first-clause-packets : goal.returns-in_err-first-clause-packets
returns-in_err-first-clause-packets c =
    rw c.from_residual.ensures (received_none _ _ c.args.pool c.args.bytes.now (same_store c.self.view_is) c.self.invariant c.requires.room c.requires.one _
    c.in_err-first.ensures.0 c.in_err-first.ensures.1)

pub overflow_cast-bytes : goal.overflow_cast-bytes
overflow_cast-bytes c =
    omega (arith, few_bytes _ _ c.args.pool c.args.bytes.now (same_store c.self.view_is) c.self.invariant c.requires.room c.requires.one)

pub invariant_of-self-2 : goal.invariant_of-self-2
invariant_of-self-2 c =
    let both = rw (c.from.ensures, c.fresh_header.ensures) at c.fill.ensures.both in
    (received_some _ _ c.args.pool c.args.bytes.now (same_store c.self.view_is) c.self.invariant c.requires.room c.requires.one _ _ c.in_ok-first.first _
    c.in_ok-first.ensures.0 c.in_ok-first.ensures.1 c.fill.ensures.small both c.packet_of.ensures).0

pub returns-clause-packets : goal.returns-clause-packets
returns-clause-packets c =
    let both = rw (c.from.ensures, c.fresh_header.ensures) at c.fill.ensures.both in
    (received_some _ _ c.args.pool c.args.bytes.now (same_store c.self.view_is) c.self.invariant c.requires.room c.requires.one _ _ c.in_ok-first.first _
    c.in_ok-first.ensures.0 c.in_ok-first.ensures.1 c.fill.ensures.small both c.packet_of.ensures).1
