-- A packet that is one object goes back at once.
use Rattle.dp_mbuf.proofs.Live.{same_store, live_object}
use Rattle.dp_mbuf.proofs.Ending.{live_out, ended}
use Rattle.dp_mbuf.proofs.mbufs.Mbufs.free.Goals as goal

pub header-requires : goal.header-requires
header-requires c = rw c.first_number-first.ensures (live_object _ _ c.args.packet (same_store c.self.view_is) c.self.invariant c.requires)

pub end-requires-clause-object : goal.end-requires-clause-object
end-requires-clause-object c = rw c.first_number-first.ensures (live_object _ _ c.args.packet (same_store c.self.view_is) c.self.invariant c.requires)

pub end-requires-clause-out : goal.end-requires-clause-out
end-requires-clause-out c = rw c.first_number-first.ensures (live_out _ _ c.args.packet (same_store c.self.view_is) c.self.invariant c.requires)

pub invariant_of-self : goal.invariant_of-self
invariant_of-self c =
    let end = rw c.first_number-first.ensures at c.end.ensures in
    let (one, direct, whole) = rw (c.header.ensures, c.first_number-first.ensures) at (c.is_alone.ensures.alone c.if-is_alone.true) in
    (ended _ _ _ c.args.packet (same_store c.self.view_is) c.self.invariant c.requires end one direct whole).0

pub returns-then-is_alone-clause-packets : goal.returns-then-is_alone-clause-packets
returns-then-is_alone-clause-packets c =
    let end = rw c.first_number-first.ensures at c.end.ensures in
    let (one, direct, whole) = rw (c.header.ensures, c.first_number-first.ensures) at (c.is_alone.ensures.alone c.if-is_alone.true) in
    (ended _ _ _ c.args.packet (same_store c.self.view_is) c.self.invariant c.requires end one direct whole).1
