-- The bytes of a packet that waits: its handle is derived once, and each goal is one step from there.
use Rattle.std.proofs.Common.{◌≡◌, ◌+◌, ◌≤◌, List, length, Some, None, sym, ◌∙◌, subst, ap}
use Rattle.std.specs.Prelude.{slice_get}
use Rattle.std.proofs.lemmas.Option.{same_Some}
use Rattle.dp_model.specs.Buffers.{overwritten}
use Rattle.dp_model.specs.Packets.{Packet, packet_bytes}
use Rattle.dp_model.specs.Laws.Lists.{get_within}
use Rattle.dp_engine.specs.Handles.{Core}
use Rattle.dp_engine.proofs.Writing.{waits_at}
use Rattle.dp_engine.proofs.machine.Machine.copy_waiting.Goals as goal
use Rattle.dp_engine.proofs.machine.Machine.copy_waiting.Goals.{In-Some}

-- the handle that is there names the packet
named : (c : In-Some) (packets : List Packet) (k : Packet) → slice_get c.args.self.now.state.world.outboxes c.args.port ≡ Some packets
    → slice_get packets c.args.at ≡ Some k → slice_get c.self.inside.mbufs.store.slots c.in-Some.packet ≡ Some (Some k)
named c packets k box here =
    let m = c.self.inside in
    let (h, at, has) = waits_at m c.args.self.now c.args.port c.args.at packets k c.self.view_is c.self.invariant c.requires.there box here in
    ap (slice_get m.mbufs.store.slots) (same_Some _ _ (sym c.in-Some.is ∙ c.peek.ensures ∙ at)) ∙ has

pub copy_packet-requires-clause-live : goal.copy_packet-requires-clause-live
copy_packet-requires-clause-live c =
    let (packets, box, less) = c.requires.waits in
    let (k, here) = get_within packets c.args.at less in
    let has = named (goal.at.copy_packet-requires-clause-live c).In-Some packets k box here in
    (k, ap (slice_get c.self.inside.mbufs.store.slots) c.of.ensures ∙ has, tt)

pub copy_packet-requires-clause-room : goal.copy_packet-requires-clause-room
copy_packet-requires-clause-room c = λ k has.
    let (packets, box, less) = c.requires.waits in
    let (j, here) = get_within packets c.args.at less in
    let its = named (goal.at.copy_packet-requires-clause-room c).In-Some packets j box here in
    let same : j ≡ k = same_Some j k (same_Some _ _ (sym its ∙ ap (slice_get c.self.inside.mbufs.store.slots) (sym c.of.ensures) ∙ has)) in
    subst (λ x. c.args.from + length (packet_bytes c.self.inside.mbufs.store.buffers x) ≤ length c.args.bytes.now) same
    (subst (λ b. c.args.from + length (packet_bytes b j) ≤ length c.args.bytes.now) (sym (ap (λ (m : Core). m.state.world.buffers) c.self.view_is))
    (c.requires.room packets j box here))

pub unreachable-requires : goal.unreachable-requires
unreachable-requires c =
    let (packets, box, less) = c.requires.waits in
    let (k, here) = get_within packets c.args.at less in
    let m = c.self.inside in
    let (h, at, has) = waits_at m c.args.self.now c.args.port c.args.at packets k c.self.view_is c.self.invariant c.requires.there box here in
    let bad : None ≡ Some h = sym c.in-None.is ∙ c.peek.ensures ∙ at in
    cc

pub returns-clause-length : goal.returns-clause-length
returns-clause-length c = λ packets k box here.
    let has = named (goal.at.returns-clause-length c).In-Some packets k box here in
    c.copy_packet.ensures.length k (ap (slice_get c.self.inside.mbufs.store.slots) c.of.ensures ∙ has)
    ∙ ap (λ (m : Core). length (packet_bytes m.state.world.buffers k)) c.self.view_is

pub returns-clause-copied : goal.returns-clause-copied
returns-clause-copied c = λ packets k box here.
    let has = named (goal.at.returns-clause-copied c).In-Some packets k box here in
    c.copy_packet.ensures.copied k (ap (slice_get c.self.inside.mbufs.store.slots) c.of.ensures ∙ has)
    ∙ ap (λ (m : Core). overwritten c.args.bytes.now c.args.from (packet_bytes m.state.world.buffers k)) c.self.view_is
