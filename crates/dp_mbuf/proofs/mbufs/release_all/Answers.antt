-- The mbufs of a packet are released one by one, along their links.
use Rattle.std.proofs.Common.{◌∙◌}
use Rattle.dp_mbuf.proofs.InHand.{released_zones}
use Rattle.dp_mbuf.proofs.Freeing.{freeing_can, freeing_step, freeing_end}
use Rattle.dp_mbuf.proofs.mbufs.release_all.Goals as goal

pub release-mbuf-requires : goal.release-mbuf-requires
release-mbuf-requires c =
    let (v, h, f) = c.requires in
    freeing_can (c.loop-i.invariant.packets v h f) c.loop-i-test.true

pub loop-i-preserved : goal.loop-i-preserved
loop-i-preserved c = record {
  packets = λ v h f.
      freeing_step (c.loop-i.invariant.packets v h f) _ _ c.loop-i-test.true c.release-mbuf.ensures.gone c.release-mbuf.ensures.next;
  zones = released_zones _ _ _ _ c.release-mbuf.ensures.gone ∙ c.loop-i.invariant.zones;
}

pub returns-clause-packets : goal.returns-clause-packets
returns-clause-packets c = λ v h f. freeing_end (c.loop-i.invariant.packets v h f) c.loop-i-test.false
