-- Receiving segment by segment: what is known of the pool is derived once.
use Rattle.std.proofs.Common.{◌≡◌, ◌≤◌, ◌-◌, length, refl, arith, ◌∙◌}
use Rattle.dp_model.specs.Packets.{available}
use Rattle.dp_model.specs.Stores.{segments_of}
use Rattle.dp_mbuf.proofs.InHand.{filled_zones}
use Rattle.dp_mbuf.proofs.Live.{same_store, same_zones}
use Rattle.dp_mbuf.proofs.Receiving.{Ready, ready, need_is, receiving_start, fill_can, fill_last, fill_done, receive_object, receive_done}
use Rattle.dp_mbuf.proofs.mbufs.Mbufs.receive_many.Goals as goal
use Rattle.dp_mbuf.proofs.mbufs.Mbufs.receive_many.Goals.{After-fill_segment-first}

-- the pool, whose buffers hold `full` bytes each
pool_ready : (c : After-fill_segment-first) → Ready c.self.inside.objects c.args.self.now.store c.args.pool (c.room-full.result - 128)
pool_ready c = ready _ _ c.args.pool (c.room-full.result - 128) _ (same_store c.self.view_is) c.self.invariant c.requires.room c.room-full.ensures refl

-- as many buffers as the bytes need are free
enough : (c : After-fill_segment-first) → c.count_needed-need.result ≤ available c.args.self.now.store.pools (segments_of c.args.self.now.store) c.args.pool
enough c = omega (arith, c.if-available-need.false, c.available.ensures, (pool_ready c).in_pool)

pub returns-then-available-need-clause-packets : goal.returns-then-available-need-clause-packets
returns-then-available-need-clause-packets c =
    let r = ready _ _ c.args.pool (c.room-full.result - 128) _ (same_store c.self.view_is) c.self.invariant c.requires.room c.room-full.ensures refl in
    let need = need_is c.args.self.now.store c.args.pool (c.room-full.result - 128) (length c.args.bytes.now) _ r.is c.count_needed-need.ensures in
    (omega (arith, c.if-available-need.true, c.available.ensures, r.in_pool, need), refl)

pub loop-i-init : goal.loop-i-init
loop-i-init c = record {
  packets =
      let r = pool_ready (goal.at.loop-i-init c).After-fill_segment-first in
      receiving_start c.args.self.now.store c.args.pool (c.room-full.result - 128) c.args.bytes.now r.room r.some _ _ _ _ r.whole r.there
      c.fill_segment-first.ensures.pool r.specs r.buffers r.in_pool c.fill_segment-first.ensures.filled (rw c.from.ensures at c.beyond-rest.ensures);
  zones = filled_zones _ _ _ _ c.fill_segment-first.ensures.filled ∙ same_zones c.self.view_is;
}

pub fill_segment-mbuf-requires-clause-some : goal.fill_segment-mbuf-requires-clause-some
fill_segment-mbuf-requires-clause-some c =
    let r = pool_ready (goal.at.fill_segment-mbuf-requires-clause-some c).After-fill_segment-first in
    (fill_can c.args.self.now.store c.args.pool (c.room-full.result - 128) c.args.bytes.now r.room r.some _ _ _ _ _ c.loop-i.invariant.packets
    c.count_needed-need.result c.loop-i-test.true (enough (goal.at.fill_segment-mbuf-requires-clause-some c).After-fill_segment-first)).1

pub relink-requires : goal.relink-requires
relink-requires c =
    let r = pool_ready (goal.at.relink-requires c).After-fill_segment-first in
    fill_last c.args.self.now.store c.args.pool (c.room-full.result - 128) c.args.bytes.now r.room r.some _ _ _ _ _ c.loop-i.invariant.packets _ _
    c.fill_segment-mbuf.ensures.pool c.fill_segment-mbuf.ensures.filled

pub loop-i-preserved : goal.loop-i-preserved
loop-i-preserved c = record {
  packets =
      let r = pool_ready (goal.at.loop-i-preserved c).After-fill_segment-first in
      fill_done c.args.self.now.store c.args.pool (c.room-full.result - 128) c.args.bytes.now r.room r.some _ _ _ _ _ c.loop-i.invariant.packets _ _ _ _
      c.fill_segment-mbuf.ensures.pool c.fill_segment-mbuf.ensures.filled c.relink.ensures (rw c.from-in-loop-i.ensures at c.beyond-rest-in-loop-i.ensures);
  zones = c.relink.ensures.zones ∙ (filled_zones _ _ _ _ c.fill_segment-mbuf.ensures.filled ∙ c.loop-i.invariant.zones);
}

pub set_first-requires : goal.set_first-requires
set_first-requires c =
    let r = pool_ready (goal.at.set_first-requires c).After-fill_segment-first in
    let need = c.count_needed-need.ensures in
    let same : c.loop-i.i ≡ c.count_needed-need.result = omega (arith, need, c.loop-i-test.false, c.loop-i.auto.i-end) in
    receive_object c.loop-i.invariant.packets r need
    c.requires.fits same

pub invariant_of-self : goal.invariant_of-self
invariant_of-self c =
    let r = pool_ready (goal.at.invariant_of-self c).After-fill_segment-first in
    let need = c.count_needed-need.ensures in
    let same : c.loop-i.i ≡ c.count_needed-need.result = omega (arith, need, c.loop-i-test.false, c.loop-i.auto.i-end) in
    (receive_done c.loop-i.invariant.packets r need
    c.requires.fits same _ _ (enough (goal.at.invariant_of-self c).After-fill_segment-first) c.packet_of.ensures c.set_first.ensures).0

pub returns-clause-packets : goal.returns-clause-packets
returns-clause-packets c =
    let r = pool_ready (goal.at.returns-clause-packets c).After-fill_segment-first in
    let need = c.count_needed-need.ensures in
    let same : c.loop-i.i ≡ c.count_needed-need.result = omega (arith, need, c.loop-i-test.false, c.loop-i.auto.i-end) in
    (receive_done c.loop-i.invariant.packets r need
    c.requires.fits same _ _ (enough (goal.at.returns-clause-packets c).After-fill_segment-first) c.packet_of.ensures c.set_first.ensures).1
