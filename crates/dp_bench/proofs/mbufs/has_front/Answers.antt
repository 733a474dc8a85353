use Rattle.std.proofs.Common.{◌≡◌, arith, rules}
use Rattle.std.proofs.lemmas.Bool.{leb-true}
use Rattle.dp_model.specs.Stores.{segments_of}
use Rattle.dp_model.specs.Laws.References.{head_sole}
use Rattle.dp_bench.proofs.mbufs.has_front.Goals as goal

pub returns : goal.returns
returns c e =
    let (k, has, _) = c.requires in
    let one : c.refs-sharers.result ≡ 1 = search rules in
    let room = c.headroom.ensures k has in (
      k,
      has,
      (
        omega (arith, room, leb-true 16 c.headroom.result e),
        head_sole (segments_of c.args.m.now.store) k c.refs-sharers.result
            (c.refs-sharers.ensures k has) one,
      ),
    )
