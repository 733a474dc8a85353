-- A clone: the call's start is derived once, and each goal is one step of it.
use Rattle.std.proofs.Common.{refl, ap, arith, ◌∙◌}
use Rattle.dp_model.specs.Packets.{Packet}
use Rattle.dp_model.specs.Stores.{Has}
use Rattle.dp_mbuf.proofs.InHand.{cloned_zones}
use Rattle.dp_mbuf.proofs.Live.{same_store, same_zones, live_object}
use Rattle.dp_mbuf.proofs.Cloning.{Opening, before, cloning_can, cloning_start, step_can, step_last, step_done, end_object, end_done}
use Rattle.dp_mbuf.proofs.mbufs.Mbufs.clone_of.Goals as goal
use Rattle.dp_mbuf.proofs.mbufs.Mbufs.clone_of.Goals.{After-first_number}

-- the call, once its packet is known and enough mbufs are free
opening : (c : After-first_number) (p : Packet) → Has c.args.self.now.store c.args.packet.now p →
    Opening c.self.inside.objects c.args.self.now.store c.args.packet.now p c.args.pool c.first_header-source.result.segs
opening c p has =
    let b = before _ _ c.args.packet.now c.args.pool (same_store c.self.view_is) c.self.invariant c.requires.exists p has in
    let segs = ap (λ x. x.segs) c.first_header-source.ensures in
    record {
      before = b;
      segs_are = segs ∙ b.segs;
      enough = omega (arith, c.if-available-from.false, c.available.ensures, segs, b.segs, b.in_pool);
    }

-- the same, of the packet that there is
found : (c : After-first_number) →
    Opening c.self.inside.objects c.args.self.now.store c.args.packet.now c.requires.live.0 c.args.pool c.first_header-source.result.segs
found c = opening c c.requires.live.0 c.requires.live.1

pub first_header-source-requires : goal.first_header-source-requires
first_header-source-requires c = live_object _ _ c.args.packet.now (same_store c.self.view_is) c.self.invariant c.requires.live

pub returns-then-available-from-clause-packets : goal.returns-then-available-from-clause-packets
returns-then-available-from-clause-packets c = λ k has.
    let b = before _ _ c.args.packet.now c.args.pool (same_store c.self.view_is) c.self.invariant c.requires.exists k has in
    let segs = ap (λ x. x.segs) c.first_header-source.ensures in
    (omega (arith, c.if-available-from.true, c.available.ensures, segs, b.segs, b.in_pool), refl)

pub clone_segment-first-requires : goal.clone_segment-first-requires
clone_segment-first-requires c =
    rw c.first_number.ensures
    (cloning_can (found (goal.at.clone_segment-first-requires c).After-first_number))

pub loop-i-init : goal.loop-i-init
loop-i-init c = record {
  packets =
      λ p has.
      let k = rw c.first_number.ensures at c.clone_segment-first.ensures.cloned in
      rw c.first_header-source.ensures
      (cloning_start (opening (goal.at.loop-i-init c).After-first_number p has) _ c.clone_segment-first.result
      c.clone_segment-first.ensures.pool k);
  zones = cloned_zones _ _ _ _ c.clone_segment-first.ensures.cloned ∙ same_zones c.self.view_is;
}

pub clone_segment-mbuf-requires : goal.clone_segment-mbuf-requires
clone_segment-mbuf-requires c =
    step_can (found (goal.at.clone_segment-mbuf-requires c).After-first_number) (c.loop-i.invariant.packets c.requires.live.0 c.requires.live.1)
    c.loop-i-test.true

pub relink-requires : goal.relink-requires
relink-requires c =
    step_last (found (goal.at.relink-requires c).After-first_number) (c.loop-i.invariant.packets c.requires.live.0 c.requires.live.1) c.loop-i-test.true
    _ _ c.clone_segment-mbuf.ensures.cloned

pub header-from-requires : goal.header-from-requires
header-from-requires c =
    (step_done (found (goal.at.header-from-requires c).After-first_number) (c.loop-i.invariant.packets c.requires.live.0 c.requires.live.1)
    c.loop-i-test.true _ _ _ c.clone_segment-mbuf.ensures.pool c.clone_segment-mbuf.ensures.cloned c.relink.ensures).0

pub loop-i-preserved : goal.loop-i-preserved
loop-i-preserved c = record {
  packets =
      λ p has.
      rw c.header-from.ensures
      (step_done (opening (goal.at.loop-i-preserved c).After-first_number p has) (c.loop-i.invariant.packets p has)
      c.loop-i-test.true _ _ _ c.clone_segment-mbuf.ensures.pool c.clone_segment-mbuf.ensures.cloned c.relink.ensures).1;
  zones = c.relink.ensures.zones ∙ (cloned_zones _ _ _ _ c.clone_segment-mbuf.ensures.cloned ∙ c.loop-i.invariant.zones);
}

pub set_first-requires : goal.set_first-requires
set_first-requires c =
    end_object (found (goal.at.set_first-requires c).After-first_number) (c.loop-i.invariant.packets c.requires.live.0 c.requires.live.1) c.loop-i-test.false

pub invariant_of-self : goal.invariant_of-self
invariant_of-self c =
    (end_done (found (goal.at.invariant_of-self c).After-first_number) (c.loop-i.invariant.packets c.requires.live.0 c.requires.live.1)
    c.loop-i-test.false _ _ c.packet_of.ensures c.set_first.ensures).0

pub returns-clause-packets : goal.returns-clause-packets
returns-clause-packets c = λ p has.
    (end_done (opening (goal.at.returns-clause-packets c).After-first_number p has) (c.loop-i.invariant.packets p has)
    c.loop-i-test.false _ _ c.packet_of.ensures c.set_first.ensures).1
