-- A packet that is one object goes back.
use Rattle.dp_mbuf.proofs.Live.{same_store, live_object}
use Rattle.dp_mbuf.proofs.Ending.{live_out, ended}
use Rattle.dp_mbuf.proofs.Alone.{object_is_one}
use Rattle.dp_mbuf.proofs.mbufs.Mbufs.free_sole.Goals as goal

pub end-requires-clause-object : goal.end-requires-clause-object
end-requires-clause-object c =
    rw c.first_number.ensures (live_object _ _ c.args.packet (same_store c.self.view_is) c.self.invariant (c.requires.0, c.requires.1, tt))

pub end-requires-clause-out : goal.end-requires-clause-out
end-requires-clause-out c =
    rw c.first_number.ensures (live_out _ _ c.args.packet (same_store c.self.view_is) c.self.invariant (c.requires.0, c.requires.1, tt))

pub invariant_of-self : goal.invariant_of-self
invariant_of-self c =
    let (k, has, alone) = c.requires in
    let end = rw c.first_number.ensures at c.end.ensures in
    let (one, counted, own) = object_is_one _ _ c.args.packet (same_store c.self.view_is) c.self.invariant k has alone in
    (ended _ _ _ c.args.packet (same_store c.self.view_is) c.self.invariant (k, has, tt) end one counted own).0

pub returns-clause-packets : goal.returns-clause-packets
returns-clause-packets c =
    let (k, has, alone) = c.requires in
    let end = rw c.first_number.ensures at c.end.ensures in
    let (one, counted, own) = object_is_one _ _ c.args.packet (same_store c.self.view_is) c.self.invariant k has alone in
    (ended _ _ _ c.args.packet (same_store c.self.view_is) c.self.invariant (k, has, tt) end one counted own).1
