-- Two packets joined: their first headers are derived once, and each goal is one step from there.
use Rattle.std.proofs.Common.{arith, ◌∙◌}
use Rattle.dp_mbuf.proofs.Live.{same_store, live_object}
use Rattle.dp_mbuf.proofs.InHand.{object_after}
use Rattle.dp_mbuf.proofs.Chaining.{Heads, last_there, segs_fit, chained}
use Rattle.dp_mbuf.proofs.mbufs.Mbufs.chain.Goals as goal
use Rattle.dp_mbuf.proofs.mbufs.Mbufs.chain.Goals.{After-clear_first-front}

heads : (c : After-clear_first-front) → Heads c.self.inside.objects c.clear_first-beyond.new.objects c.clear_first-front.new.objects c.args.head.now c.args.tail
    c.clear_first-front.result c.clear_first-beyond.result
heads c =
    let tail_out = rw c.first_number-second.ensures at c.clear_first-beyond.ensures.now in
    let head_out = rw c.first_number-first.ensures at c.clear_first-front.ensures.now in
    let head_was = rw c.first_number-first.ensures at c.clear_first-front.ensures.was in
    let tail_was = rw c.first_number-second.ensures at c.clear_first-beyond.ensures.was in
    record { tail_out = tail_out; head_out = head_out; head_was = head_was; tail_was = tail_was }

pub clear_first-beyond-requires : goal.clear_first-beyond-requires
clear_first-beyond-requires c =
    rw c.first_number-second.ensures (live_object _ _ c.args.tail (same_store c.self.view_is) c.self.invariant
    (let (_, _, (tail, has, _)) = c.requires.few in (tail, has, tt)))

pub clear_first-front-requires : goal.clear_first-front-requires
clear_first-front-requires c =
    rw c.first_number-first.ensures
    (object_after _ _ _ c.clear_first-beyond.ensures.now.specs (live_object _ _ c.args.head.now (same_store c.self.view_is) c.self.invariant (
      c.requires.few.0,
      c.requires.few.1,
      tt,
    )))

pub relink-requires : goal.relink-requires
relink-requires c =
    last_there (same_store c.self.view_is) c.self.invariant c.requires.two c.requires.few (heads (goal.at.relink-requires c).After-clear_first-front)

pub overflow_add-front : goal.overflow_add-front
overflow_add-front c =
    let fits = segs_fit (same_store c.self.view_is) c.self.invariant c.requires.two c.requires.few
    (heads (goal.at.overflow_add-front c).After-clear_first-front) in
    omega (arith, fits)

pub set_first-requires : goal.set_first-requires
set_first-requires c =
    rw c.first_number-first.ensures
    (object_after _ _ _ (c.relink.ensures.specs ∙ (c.clear_first-front.ensures.now.specs ∙ c.clear_first-beyond.ensures.now.specs))
    (live_object _ _ c.args.head.now (same_store c.self.view_is) c.self.invariant (c.requires.few.0, c.requires.few.1, tt)))

pub invariant_of-self : goal.invariant_of-self
invariant_of-self c =
    let linked = rw c.first_number-second.ensures at c.relink.ensures in
    let first_set = rw c.first_number-first.ensures at c.set_first.ensures in
    (chained (same_store c.self.view_is) c.self.invariant c.requires.two c.requires.few
    (heads (goal.at.invariant_of-self c).After-clear_first-front) linked first_set).0

pub returns-clause-packets : goal.returns-clause-packets
returns-clause-packets c =
    let linked = rw c.first_number-second.ensures at c.relink.ensures in
    let first_set = rw c.first_number-first.ensures at c.set_first.ensures in
    (chained (same_store c.self.view_is) c.self.invariant c.requires.two c.requires.few
    (heads (goal.at.returns-clause-packets c).After-clear_first-front) linked first_set).1
