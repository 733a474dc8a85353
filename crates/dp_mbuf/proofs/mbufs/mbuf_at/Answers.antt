-- Each link leads to the next segment's mbuf.
use Rattle.std.proofs.Common.{◌≡◌, arith}
use Rattle.dp_mbuf.specs.Objects.{header_at}
use Rattle.dp_mbuf.proofs.Reading.{walk_object, walk_next}
use Rattle.dp_mbuf.proofs.mbufs.mbuf_at.Goals as goal

pub loop-i-init : goal.loop-i-init
loop-i-init c = λ p l b. l

pub header-mbuf-requires : goal.header-mbuf-requires
header-mbuf-requires c =
    let (p, links, _, within) = c.requires in
    walk_object _ _ _ c.args.k c.loop-i.i c.requires (c.loop-i.invariant p links within) c.loop-i-test.true

pub loop-i-preserved : goal.loop-i-preserved
loop-i-preserved c = λ p l b.
    rw c.header-mbuf.ensures (walk_next (header_at c.args.objects.now) c.loop-i.mbuf c.loop-i.i p (omega (arith, b, c.loop-i-test.true))
    (c.loop-i.invariant p l b))

pub returns : goal.returns
returns c = λ p l b.
    let e : c.loop-i.i ≡ c.args.k = omega (arith, c.loop-i-test.false, c.loop-i.auto.i-end) in
    rw (← e) (c.loop-i.invariant p l b)
