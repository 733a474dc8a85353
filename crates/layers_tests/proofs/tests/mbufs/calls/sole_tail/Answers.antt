-- `sole_tail`: one reference to the buffer of the last segment.
use Rattle.std.proofs.Common.{◌≡◌, ◌-◌, suc, length, rules, arith}
use Rattle.dp_model.specs.Stores.{segments_of}
use Rattle.layers_tests.proofs.RowLemmas.{tail_sole}
use Rattle.layers_tests.proofs.tests.mbufs.calls.sole_tail.Goals as goal

pub returns : goal.returns
returns g c =
    let (k, has, _) = c.refs-sharers.ensures.live in
    let count = c.segments-count.ensures k has in
    let one : c.refs-sharers.result ≡ 1 = search rules in
    let last : length k ≡ suc (c.segments-count.result - 1) = omega (arith, count) in (
      k,
      has,
      tail_sole (segments_of c.args.m.now.store) k (c.segments-count.result - 1) c.refs-sharers.result last (c.refs-sharers.ensures.refs k has) one,
    )
