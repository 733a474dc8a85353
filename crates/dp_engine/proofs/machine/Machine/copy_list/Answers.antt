-- The packet that is copied is found once, and each goal is one step from there.
use Rattle.std.proofs.Common.{◌≡◌, ◌+◌, ◌<◌, ◌≤◌, ◌++◌, List, ◌∷◌, [], length, map, take, Some, refl, sym, ◌∙◌, ap, subst, arith, append_assoc, append-nil}
use Rattle.std.proofs.Common.{length-set}
use Rattle.std.specs.Prelude.{slice_get}
use Rattle.std.proofs.lemmas.Option.{same_Some}
use Rattle.std.proofs.lemmas.List.{take_all}
use Rattle.dp_model.specs.Packets.{Packet, packet_bytes}
use Rattle.dp_model.specs.Laws.Lists.{get_within}
use Rattle.dp_engine.specs.Batches.{Holds, frame_of, bytes_of_all}
use Rattle.dp_engine.proofs.Batches.{bytes_long, holds_more, frames_next, keeps_more, packet_has_room}
use Rattle.dp_engine.proofs.machine.Machine.copy_list.Goals as goal
use Rattle.dp_engine.proofs.machine.Machine.copy_list.Goals.{After-copy_waiting-arg-1}

-- what is known about it: its index in the list, and that the batch has room for it
record Next (c : After-copy_waiting-arg-1) (packets : List Packet) : Type 0 where
  packet : Packet
  here : slice_get packets c.loop-at.at ≡ Some packet
  few : c.loop-at.held.records < length c.loop-at.records
  fits : c.loop-at.held.bytes + length (packet_bytes c.args.self.now.state.world.buffers packet) ≤ length c.loop-at.bytes

next : (c : After-copy_waiting-arg-1) (packets : List Packet) → slice_get c.args.self.now.state.world.outboxes c.args.port ≡ Some packets → Next c packets
next c packets box =
    let i = c.loop-at.invariant in
    let (others, box', count) = c.count-count.ensures.list in
    let same : length others ≡ length packets = ap length (same_Some _ _ (sym box' ∙ box)) in
    let lt : c.loop-at.at < length packets = omega (arith, c.loop-at-test.true, count, same) in
    let (k, here) = get_within packets c.loop-at.at lt in
    record {
      packet = k;
      here = here;
      few = omega (arith, i.count, i.records, c.requires.records packets box, lt);
      fits = omega (
        arith,
        i.size packets box,
        i.bytes,
        c.requires.bytes packets box,
        packet_has_room c.args.port c.args.self.now.state.world.buffers packets c.loop-at.at k here,
      );
    }

pub loop-at-init : goal.loop-at-init
loop-at-init c = record {
  count = omega arith;
  size = λ packets box. omega arith;
  holds = λ packets frames box was. subst (λ fs. Holds c.args.time fs c.args.records.now c.args.bytes.now c.args.held) (sym (append-nil frames)) was;
  rest = record { records_rest = refl; bytes_rest = refl };
  records = refl;
  bytes = refl;
}

pub copy_waiting-length-requires-clause-room : goal.copy_waiting-length-requires-clause-room
copy_waiting-length-requires-clause-room c = λ packets k box here.
    let n = next (goal.at.copy_waiting-length-requires-clause-room c).After-copy_waiting-arg-1 packets box in
    subst (λ x. c.loop-at.held.bytes + length (packet_bytes c.args.self.now.state.world.buffers x) ≤ length c.loop-at.bytes)
    (same_Some _ _ (sym n.here ∙ here)) n.fits

pub bounds-records-held : goal.bounds-records-held
bounds-records-held c =
    let (packets, box, _) = c.count-count.ensures.list in
    (next (goal.at.bounds-records-held c).After-copy_waiting-arg-1 packets box).few

pub overflow_add-held : goal.overflow_add-held
overflow_add-held c =
    let (packets, box, _) = c.count-count.ensures.list in
    let n = next (goal.at.overflow_add-held c).After-copy_waiting-arg-1 packets box in
    omega (arith, n.few, c.loop-at.invariant.records, c.well_formed)

pub overflow_add-held-in-loop-at : goal.overflow_add-held-in-loop-at
overflow_add-held-in-loop-at c =
    let (packets, box, _) = c.count-count.ensures.list in
    let n = next (goal.at.overflow_add-held-in-loop-at c).After-copy_waiting-arg-1 packets box in
    omega (arith, n.fits, c.copy_waiting-length.ensures.length packets n.packet box n.here, c.loop-at.invariant.bytes, c.well_formed)

pub loop-at-preserved : goal.loop-at-preserved
loop-at-preserved c =
    let b = c.args.self.now.state.world.buffers in
    let i = c.loop-at.invariant in
    let at = c.loop-at.at in
    let here = (goal.at.loop-at-preserved c).After-copy_waiting-arg-1 in
    record {
      count = omega (arith, i.count);
      size = λ packets box.
          let n = next here packets box in
          omega (
            arith,
            i.size packets box,
            c.copy_waiting-length.ensures.length packets n.packet box n.here,
            ap (λ fs. length (bytes_of_all fs)) (frames_next c.args.port b packets at n.packet n.here),
            bytes_long (map (frame_of c.args.port b) (take at packets)) (frame_of c.args.port b n.packet),
          );
      holds = λ packets frames box was.
          let n = next here packets box in
          let own = map (frame_of c.args.port b) (take at packets) in
          let more = holds_more c.args.time (frames ++ own) (frame_of c.args.port b n.packet) c.loop-at.records c.loop-at.bytes c.loop-at.held n.few n.fits
          (i.holds packets frames box was) in
          let same = append_assoc frames own (frame_of c.args.port b n.packet ∷ [])
          ∙ ap (λ l. frames ++ l) (sym (frames_next c.args.port b packets at n.packet n.here)) in
          rw (
            ← same,
            c.from.ensures,
            c.copy_waiting-length.ensures.length packets n.packet box n.here,
            c.copy_waiting-length.ensures.copied packets n.packet box n.here,
          ) more;
      rest =
          let (packets, box, _) = c.count-count.ensures.list in
          let n = next here packets box in
          let more = keeps_more c.loop-at.held c.args.records.now c.loop-at.records c.args.bytes.now c.loop-at.bytes _
          (packet_bytes b n.packet) n.few n.fits i.rest in
          rw (
            c.from.ensures,
            c.copy_waiting-length.ensures.length packets n.packet box n.here,
            c.copy_waiting-length.ensures.copied packets n.packet box n.here,
          ) more;
      records = length-set c.loop-at.records c.loop-at.held.records _ ∙ i.records;
      bytes = c.copy_waiting-length.ensures.many ∙ i.bytes;
    }

pub returns-clause-holds : goal.returns-clause-holds
returns-clause-holds c = λ packets frames box was.
    let (others, box', count) = c.count-count.ensures.list in
    let same : length others ≡ length packets = ap length (same_Some _ _ (sym box' ∙ box)) in
    subst (λ l. Holds c.args.time (frames ++ map (frame_of c.args.port c.args.self.now.state.world.buffers) l) c.loop-at.records c.loop-at.bytes c.loop-at.held)
    (take_all c.loop-at.at packets (omega (arith, c.loop-at-test.false, count, same))) (c.loop-at.invariant.holds packets frames box was)
