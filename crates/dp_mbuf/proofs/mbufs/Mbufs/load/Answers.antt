-- The number is read from the first segment's data room, at its offset.
use Rattle.std.proofs.Common.{◌+◌, refl, arith, ◌∙◌}
use Rattle.dp_model.specs.Arithmetic.{bytes_in}
use Rattle.dp_mbuf.proofs.Live.{same_store, live_object}
use Rattle.dp_mbuf.proofs.Bytes.{at_first, read_is}
use Rattle.dp_mbuf.proofs.mbufs.Mbufs.load.Goals as goal

pub first_header-head-requires : goal.first_header-head-requires
first_header-head-requires c = live_object _ _ c.args.packet.now (same_store c.self.view_is) c.self.invariant (c.requires.0, c.requires.1, tt)

pub number_near-requires-clause-object : goal.number_near-requires-clause-object
number_near-requires-clause-object c =
    (at_first _ _ c.args.packet.now (same_store c.self.view_is) c.self.invariant _ c.args.offset (bytes_in c.args.width) c.first_header-head.ensures
    c.requires).1

pub number_near-requires-clause-fits : goal.number_near-requires-clause-fits
number_near-requires-clause-fits c =
    omega (
      arith,
      at_first _ _ c.args.packet.now (same_store c.self.view_is) c.self.invariant _ c.args.offset
          (bytes_in c.args.width) c.first_header-head.ensures c.requires,
    )

pub number_near-requires-clause-small : goal.number_near-requires-clause-small
number_near-requires-clause-small c =
    omega (
      arith,
      at_first _ _ c.args.packet.now (same_store c.self.view_is) c.self.invariant _ c.args.offset
          (bytes_in c.args.width) c.first_header-head.ensures c.requires,
    )

pub returns : goal.returns
returns c = λ k has.
    let f = at_first _ _ c.args.packet.now (same_store c.self.view_is) c.self.invariant _ c.args.offset (bytes_in c.args.width) c.first_header-head.ensures
    c.requires in
    let at = c.first_header-head.result.offset + c.args.offset in
    c.number_near.ensures
    ∙ read_is _ _ c.args.packet.now (same_store c.self.view_is) c.self.invariant _ at c.args.offset (bytes_in c.args.width) _ c.first_header-head.ensures
    refl refl f.0 k has
