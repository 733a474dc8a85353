-- A packet that is one object: its bytes lie in that object.
use Rattle.std.proofs.Common.{arith}
use Rattle.dp_mbuf.proofs.Live.{same_store, live_object}
use Rattle.dp_mbuf.proofs.Alone.{object_is_one, one_is_alone, one_bytes, own_there}
use Rattle.dp_mbuf.proofs.mbufs.Mbufs.sole_bytes.Goals as goal

pub header-requires : goal.header-requires
header-requires c = rw c.first_number-first.ensures (live_object _ _ c.args.packet.now (same_store c.self.view_is) c.self.invariant c.requires)

pub header-segment-requires : goal.header-segment-requires
header-segment-requires c = rw c.first_number-first.ensures (live_object _ _ c.args.packet.now (same_store c.self.view_is) c.self.invariant c.requires)

pub bytes_in_segment-requires-clause-object : goal.bytes_in_segment-requires-clause-object
bytes_in_segment-requires-clause-object c =
    rw c.first_number-first.ensures (live_object _ _ c.args.packet.now (same_store c.self.view_is) c.self.invariant c.requires)

pub bytes_in_segment-requires-clause-fits : goal.bytes_in_segment-requires-clause-fits
bytes_in_segment-requires-clause-fits c =
    let one = rw (c.header.ensures, c.first_number-first.ensures) at (c.is_alone.ensures.alone c.if-is_alone.true) in
    rw (c.header-segment.ensures, c.first_number-first.ensures)
    (own_there _ _ c.args.packet.now (same_store c.self.view_is) c.self.invariant c.requires.0 c.requires.1 one).0

pub returns-then-is_alone-clause-some : goal.returns-then-is_alone-clause-some
returns-then-is_alone-clause-some c k has =
    let one = rw (c.header.ensures, c.first_number-first.ensures) at (c.is_alone.ensures.alone c.if-is_alone.true) in
    let bytes = rw (c.header-segment.ensures, c.first_number-first.ensures) at c.bytes_in_segment.ensures.value in (
      one_is_alone _ _ c.args.packet.now (same_store c.self.view_is) c.self.invariant k has one,
      one_bytes _ _ c.args.packet.now (same_store c.self.view_is) c.self.invariant k _ has one bytes,
    )

pub returns-then-is_alone-clause-bound : goal.returns-then-is_alone-clause-bound
returns-then-is_alone-clause-bound c =
    let one = rw (c.header.ensures, c.first_number-first.ensures) at (c.is_alone.ensures.alone c.if-is_alone.true) in
    let many = rw (c.header-segment.ensures, c.first_number-first.ensures) at c.bytes_in_segment.ensures.many in
    omega (arith, many, (own_there _ _ c.args.packet.now (same_store c.self.view_is) c.self.invariant c.requires.0 c.requires.1 one).1)

pub returns-else-is_alone-clause-none : goal.returns-else-is_alone-clause-none
returns-else-is_alone-clause-none c k has alone =
    c.is_alone.ensures.other c.if-is_alone.false (rw (c.header.ensures, c.first_number-first.ensures)
    (object_is_one _ _ c.args.packet.now (same_store c.self.view_is) c.self.invariant k has alone))
