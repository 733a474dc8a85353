-- A handle is a packet's exactly if its object is out and has segments.
use Rattle.std.proofs.Common.{◌≡◌, length, arith}
use Rattle.std.proofs.lemmas.Bool.{le-ltb}
use Rattle.dp_mbuf.specs.Objects.{pool_in}
use Rattle.dp_mbuf.specs.Mbufs.{numbered}
use Rattle.dp_mbuf.proofs.Live.{same_store}
use Rattle.dp_mbuf.proofs.ClearingFirst.{no_head_past}
use Rattle.dp_mbuf.proofs.Starting.{live_iff, positive_is}
use Rattle.dp_mbuf.proofs.mbufs.Mbufs.is_live.Goals as goal

pub returns-then-from-count : goal.returns-then-from-count
returns-then-from-count c =
    let header = rw c.first_number-mbuf.ensures at c.header.ensures in
    live_iff _ _ c.args.packet.now _ (same_store c.self.view_is) c.self.invariant
    (rw (← positive_is c.header.result.segs, header))

pub returns-else-from-count : goal.returns-else-from-count
returns-else-from-count c =
    let i : c.index.result ≡ (numbered c.args.packet.now).index = rw (c.index.ensures, c.first_number-mbuf.ensures) in
    let k : c.pool.result ≡ (numbered c.args.packet.now).pool = rw (c.pool.ensures, c.first_number-mbuf.ensures) in
    let many : c.count.result ≡ length (pool_in c.self.inside.objects (numbered c.args.packet.now).pool).objects =
    rw (c.count.ensures, k) in
    live_iff _ _ c.args.packet.now _ (same_store c.self.view_is) c.self.invariant
    (rw (no_head_past c.self.inside.objects (numbered c.args.packet.now) (omega (arith, i, many, c.if-from-count.false)))
    (le-ltb c.from.result c.count.result c.if-from-count.false))
