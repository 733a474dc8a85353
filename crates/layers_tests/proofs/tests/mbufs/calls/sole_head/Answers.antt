-- `sole_head`: one reference to the buffer of the first segment.
use Rattle.std.proofs.Common.{◌≡◌, rules}
use Rattle.dp_model.specs.Stores.{segments_of}
use Rattle.dp_model.specs.Laws.References.{head_sole}
use Rattle.layers_tests.proofs.tests.mbufs.calls.sole_head.Goals as goal

pub returns : goal.returns
returns g c =
    let (k, has, _) = c.refs-sharers.ensures.live in
    let one : c.refs-sharers.result ≡ 1 = search rules in
    (k, has, head_sole (segments_of c.args.m.now.store) k c.refs-sharers.result (c.refs-sharers.ensures.refs k has) one)
