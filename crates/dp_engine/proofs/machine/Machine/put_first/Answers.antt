-- The first packet of a transmit list: its handle is derived once, and each goal is one step from there.
use Rattle.std.proofs.Common.{◌≡◌, ℕ, ◌+◌, ◌≤◌, ◌∷◌, List, length, Some, refl, ◌∙◌, subst, ap}
use Rattle.std.specs.Prelude.{drop, slice_get}
use Rattle.std.specs.Io.KnownBytes.{Appends}
use Rattle.std.proofs.lemmas.Option.{same_Some}
use Rattle.std.proofs.lemmas.Result.{on_ok_weaker, on_err_weaker}
use Rattle.dp_model.specs.Buffers.{Buffers}
use Rattle.dp_model.specs.Packets.{Packet}
use Rattle.dp_pcap.specs.Text.{AppendsPart}
use Rattle.dp_engine.specs.Drains.{record_of}
use Rattle.dp_engine.specs.Handles.{Core}
use Rattle.dp_engine.specs.MachineParts.{parts_of}
use Rattle.dp_engine.specs.Queues.{ring_at}
use Rattle.dp_model.specs.declared.queue.Queue.TheVariants.{Tx}
use Rattle.dp_engine.proofs.Draining.{stand_drops, first_drops}
use Rattle.dp_engine.proofs.Pushing.{first_in, first_there, queue_there}
use Rattle.dp_engine.proofs.Writing.{waits_at}
use Rattle.dp_engine.proofs.machine.Machine.put_first.Goals as goal
use Rattle.dp_engine.proofs.machine.Machine.put_first.Goals.{In-Some}

-- the handle that is taken names the first packet
named : (g : _) (c : In-Some g) (packets : List Packet) (k : Packet) → slice_get c.args.self.now.state.world.outboxes c.args.port ≡ Some packets
    → slice_get packets 0 ≡ Some k → slice_get c.self.inside.mbufs.store.slots c.in-Some.packet ≡ Some (Some k)
named g c packets k box here =
    let m = c.self.inside in
    let (h, at, has) = waits_at m c.args.self.now c.args.port 0 packets k c.self.view_is c.self.invariant c.requires.there box here in
    ap (slice_get m.mbufs.store.slots) (same_Some _ _ (c.in-Some.ensures.first ∙ at)) ∙ has

-- what is said of the packet that the handle has is said of the first one
first_said : (g : _) (c : In-Some g) (P : Buffers → Packet → Type 0) {h : ℕ} → h ≡ c.in-Some.packet
    → ((k : Packet) → slice_get c.self.inside.mbufs.store.slots h ≡ Some (Some k) → P c.self.inside.mbufs.store.buffers k)
    → (packets : List Packet) (k : Packet) → slice_get c.args.self.now.state.world.outboxes c.args.port ≡ Some packets → slice_get packets 0 ≡ Some k
    → P c.args.self.now.state.world.buffers k
first_said g c P is all packets k box here =
    subst (λ b. P b k) (ap (λ (m : Core). m.state.world.buffers) c.self.view_is)
    (all k (ap (slice_get c.self.inside.mbufs.store.slots) is ∙ named g c packets k box here))

-- there is one
its_packet : (g : _) (c : In-Some g) → (k : Packet) × (slice_get c.self.inside.mbufs.store.slots c.in-Some.packet ≡ Some (Some k))
its_packet g c = let (packets, k, list) = c.requires.some in (k, named g c (k ∷ packets) k list refl)

-- the list begins with the handle
front : (g : _) (c : In-Some g) → slice_get (parts_of c.self.inside).lists.outboxes c.args.port
    ≡ Some (c.in-Some.packet ∷ drop 1 (ring_at c.self.inside.queues.outboxes c.args.port).entries)
front g c =
    first_in (Tx c.args.port) c.self.inside.queues.rings c.self.inside.queues.outboxes c.in-Some.packet
    (queue_there c.self.inside _ c.self.view_is (Tx c.args.port) c.requires.there) c.in-Some.ensures.first

pub put_and_free-requires-clause-live : goal.put_and_free-requires-clause-live
put_and_free-requires-clause-live g c =
    let (k, has) = its_packet g (goal.at.put_and_free-requires-clause-live g c).In-Some in
    rw (c.of.ensures) (k, has, tt)

pub invariant_of-self : goal.invariant_of-self
invariant_of-self g c =
    let rest = c.pop.ensures.rest in
    rw (c.put_and_free.ensures.freed, c.of.ensures, rest.rings_have, rest.outboxes_have)
    (stand_drops (Tx c.args.port) (parts_of c.self.inside) c.in-Some.packet _ (front g (goal.at.invariant_of-self g c).In-Some) c.self.invariant)

pub proved-requires : goal.proved-requires
proved-requires g c =
    let (packets, k, list) = c.requires.some in
    absurd (first_there c.self.inside _ c.self.view_is (Tx c.args.port) k packets c.requires.there list c.in-None.ensures.first)

pub returns-clause-ok : goal.returns-clause-ok
returns-clause-ok g c =
    on_ok_weaker c.put_and_free.result (first_said g (goal.at.returns-clause-ok g c).In-Some (λ b k. Appends (g.W.Sink.contents c.args.w.now)
    (g.W.Sink.contents c.put_and_free.new.w) (record_of c.args.unit c.args.time b k)) c.of.ensures) c.put_and_free.ensures.puts.ok

pub returns-clause-err : goal.returns-clause-err
returns-clause-err g c =
    on_err_weaker c.put_and_free.result (first_said g (goal.at.returns-clause-err g c).In-Some (λ b k. AppendsPart (g.W.Sink.contents c.args.w.now)
    (g.W.Sink.contents c.put_and_free.new.w) (record_of c.args.unit c.args.time b k)) c.of.ensures) c.put_and_free.ensures.puts.err

pub returns-clause-counted : goal.returns-clause-counted
returns-clause-counted g c =
    first_said g (goal.at.returns-clause-counted g c).In-Some
    (λ b k. g.W.Sink.calls c.put_and_free.new.w ≤ g.W.Sink.calls c.args.w.now + length (record_of c.args.unit c.args.time b k)) c.of.ensures
    c.put_and_free.ensures.puts.counted

pub returns-clause-rest : goal.returns-clause-rest
returns-clause-rest g c packets k list =
    let rest = c.pop.ensures.rest in
    rw (c.put_and_free.ensures.freed, c.put_and_free.ensures.zones, c.of.ensures, rest.rings_stay, rest.outboxes_stay, rest.rings_have, rest.outboxes_have)
    (first_drops (Tx c.args.port) (parts_of c.self.inside) _ c.in-Some.packet _ k packets c.self.view_is c.self.invariant
    (front g (goal.at.returns-clause-rest g c).In-Some) list)
