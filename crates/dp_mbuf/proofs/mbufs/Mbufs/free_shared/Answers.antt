-- A packet of one segment is freed at once, any other mbuf by mbuf.
use Rattle.std.proofs.Common.{◌≡◌, ◌∙◌, ap, sym}
use Rattle.dp_mbuf.specs.Objects.{header_at}
use Rattle.dp_mbuf.specs.Mbufs.{Freeing}
use Rattle.dp_mbuf.proofs.InHand.{released_zones}
use Rattle.dp_mbuf.proofs.Live.{same_store, same_zones, live_object}
use Rattle.dp_mbuf.proofs.Freeing.{freeing_start, freeing_only, freed_only}
use Rattle.dp_mbuf.proofs.mbufs.Mbufs.free_shared.Goals as goal
use Rattle.dp_mbuf.proofs.mbufs.Mbufs.free_shared.Goals.{After-clear_first-head}

-- all its mbufs are in hand
started : (c : After-clear_first-head) →
    Freeing c.clear_first-head.new.objects c.first_number-first.result 0 c.clear_first-head.result.segs c.args.self.now.store c.args.packet
started c =
    let set = rw c.first_number-first.ensures at c.clear_first-head.ensures.now in
    let was = rw c.first_number-first.ensures at c.clear_first-head.ensures.was in
    rw (c.first_number-first.ensures, was) (freeing_start _ _ _ _ (same_store c.self.view_is) c.self.invariant c.requires set)

-- the first header's buffer stays
buffer : (c : After-clear_first-head) → (header_at c.clear_first-head.new.objects c.first_number-first.result).buffer ≡ c.clear_first-head.result.buffer
buffer c = ap (λ h. h.buffer) c.clear_first-head.ensures.now.here ∙ sym (ap (λ h. h.buffer) c.clear_first-head.ensures.was)

pub clear_first-head-requires : goal.clear_first-head-requires
clear_first-head-requires c = rw c.first_number-first.ensures (live_object _ _ c.args.packet (same_store c.self.view_is) c.self.invariant c.requires)

pub release_only-requires-clause-can : goal.release_only-requires-clause-can
release_only-requires-clause-can c =
    let here = (goal.at.release_only-requires-clause-can c).After-clear_first-head in
    freeing_only (started here) c.if-segs-eq1.true (buffer here)

pub release_all-requires : goal.release_all-requires
release_all-requires c = (_, _, started (goal.at.release_all-requires c).After-clear_first-head)

pub invariant_of-self : goal.invariant_of-self
invariant_of-self c =
    let here = (goal.at.invariant_of-self c).After-clear_first-head in
    (freed_only (started here) c.if-segs-eq1.true (buffer here) _ c.release_only.ensures).0

pub invariant_of-self-else-segs-eq1 : goal.invariant_of-self-else-segs-eq1
invariant_of-self-else-segs-eq1 c = (c.release_all.ensures.packets _ _ (started (goal.at.invariant_of-self-else-segs-eq1 c).After-clear_first-head)).0

pub returns-then-segs-eq1-clause-packets : goal.returns-then-segs-eq1-clause-packets
returns-then-segs-eq1-clause-packets c =
    let here = (goal.at.returns-then-segs-eq1-clause-packets c).After-clear_first-head in
    (freed_only (started here) c.if-segs-eq1.true (buffer here) _ c.release_only.ensures).1

pub returns-then-segs-eq1-clause-zones : goal.returns-then-segs-eq1-clause-zones
returns-then-segs-eq1-clause-zones c = released_zones _ _ _ _ c.release_only.ensures ∙ (c.clear_first-head.ensures.now.zones ∙ same_zones c.self.view_is)

pub returns-else-segs-eq1-clause-packets : goal.returns-else-segs-eq1-clause-packets
returns-else-segs-eq1-clause-packets c = (c.release_all.ensures.packets _ _ (started (goal.at.returns-else-segs-eq1-clause-packets c).After-clear_first-head)).1
