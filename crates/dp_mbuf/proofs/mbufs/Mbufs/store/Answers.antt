-- The number is written into the first segment, which has its bytes.
use Rattle.std.proofs.Common.{◌+◌, ◌≤◌, refl, arith}
use Rattle.dp_model.specs.Arithmetic.{bytes_in}
use Rattle.dp_model.specs.Environments.{room_at}
use Rattle.dp_mbuf.specs.Objects.{specs_of, HasObject}
use Rattle.dp_mbuf.proofs.Live.{same_store, live_object}
use Rattle.dp_mbuf.proofs.Bytes.{at_first, stored_done}
use Rattle.dp_mbuf.proofs.mbufs.Mbufs.store.Goals as goal
use Rattle.dp_mbuf.proofs.mbufs.Mbufs.store.Goals.{After-first_header-head}

-- the bytes lie in the first segment
lies : (c : After-first_header-head) → (c.args.offset + bytes_in c.args.width ≤ c.first_header-head.result.len)
    × HasObject c.self.inside.objects c.first_header-head.result.buffer
    × (c.first_header-head.result.offset + c.first_header-head.result.len ≤ room_at (specs_of c.self.inside.objects) c.first_header-head.result.buffer.pool)
    × (room_at (specs_of c.self.inside.objects) c.first_header-head.result.buffer.pool ≤ 4096)
lies c =
    let (k, has, (fits, _)) = c.requires in
    at_first _ _ c.args.packet.now (same_store c.self.view_is) c.self.invariant _ c.args.offset (bytes_in c.args.width) c.first_header-head.ensures
    (k, has, fits)

pub first_header-head-requires : goal.first_header-head-requires
first_header-head-requires c = live_object _ _ c.args.packet.now (same_store c.self.view_is) c.self.invariant (c.requires.0, c.requires.1, tt)

pub overflow_cast-offset : goal.overflow_cast-offset
overflow_cast-offset c = omega (arith, lies (goal.at.overflow_cast-offset c).After-first_header-head)

pub write_number_near-requires-clause-small : goal.write_number_near-requires-clause-small
write_number_near-requires-clause-small c = omega (arith, lies (goal.at.write_number_near-requires-clause-small c).After-first_header-head)

pub write_number_near-requires-clause-object : goal.write_number_near-requires-clause-object
write_number_near-requires-clause-object c = (lies (goal.at.write_number_near-requires-clause-object c).After-first_header-head).1

pub write_number_near-requires-clause-fits : goal.write_number_near-requires-clause-fits
write_number_near-requires-clause-fits c = omega (arith, lies (goal.at.write_number_near-requires-clause-fits c).After-first_header-head)

pub invariant_of-self : goal.invariant_of-self
invariant_of-self c =
    (stored_done _ _ c.args.packet.now (same_store c.self.view_is) c.self.invariant _ _ c.args.offset (bytes_in c.args.width) c.args.n _ _
    c.first_header-head.ensures (c.requires.0, c.requires.1, tt) refl refl c.write_number_near.ensures).0

pub returns-clause-packets : goal.returns-clause-packets
returns-clause-packets c =
    (stored_done _ _ c.args.packet.now (same_store c.self.view_is) c.self.invariant _ _ c.args.offset (bytes_in c.args.width) c.args.n _ _
    c.first_header-head.ensures (c.requires.0, c.requires.1, tt) refl refl c.write_number_near.ensures).1
