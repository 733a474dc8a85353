-- The list that is copied is found once, and each goal is one step from there.
use Rattle.std.proofs.Common.{◌≡◌, ◌+◌, ◌≤◌, ◌++◌, List, length, map, take, Some, refl, sym, ◌∙◌, ap, subst, arith, add-one, zero-add}
use Rattle.std.specs.Prelude.{slice_get}
use Rattle.std.proofs.lemmas.List.{length-map, take_all}
use Rattle.dp_model.specs.Packets.{Packet}
use Rattle.dp_model.specs.Laws.Lists.{get_within}
use Rattle.dp_engine.specs.Batches.{Holds, frame_of, frames_from, bytes_of_all}
use Rattle.dp_engine.specs.Handles.{Core, entries_of, packet_at}
use Rattle.dp_engine.proofs.Batches.{HasRoom, holds_none, frames_more, keeps_on, next_has_room}
use Rattle.dp_engine.proofs.machine.Machine.copy_lists.Goals as goal
use Rattle.dp_engine.proofs.machine.Machine.copy_lists.Goals.{After-outboxes-port-end, In-loop-port}

-- each list has its packets
long : (c : After-outboxes-port-end) → length c.args.self.now.state.world.outboxes ≡ length c.self.inside.queues.outboxes
long c =
    let m = c.self.inside in
    ap (λ (x : Core). length x.state.world.outboxes) (sym c.self.view_is)
    ∙ length-map (map entries_of m.queues.outboxes) (map (packet_at m.mbufs.store.slots)) ∙ length-map m.queues.outboxes entries_of

-- the batch has room for it
room : (c : In-loop-port) (packets : List Packet) → slice_get c.args.self.now.state.world.outboxes c.loop-port.port ≡ Some packets
    → HasRoom (frames_from 0 c.args.self.now.state.world.buffers (take c.loop-port.port c.args.self.now.state.world.outboxes))
    (map (frame_of c.loop-port.port c.args.self.now.state.world.buffers) packets) (length c.args.records.now) (length c.args.bytes.now)
room c packets box =
    let w = c.args.self.now.state.world in
    next_has_room c.loop-port.port w.buffers w.outboxes packets (length c.args.records.now) (length c.args.bytes.now) box c.requires.records c.requires.bytes

pub loop-port-init : goal.loop-port-init
loop-port-init c = record {
  holds = holds_none c.args.time c.args.records.now c.args.bytes.now;
  rest = record { records_rest = refl; bytes_rest = refl };
  records = refl;
  bytes = refl;
}

pub copy_list-held-requires-clause-records : goal.copy_list-held-requires-clause-records
copy_list-held-requires-clause-records c = λ packets box.
    let r = room (goal.at.copy_list-held-requires-clause-records c).In-loop-port packets box in
    let fits : c.loop-port.held.records + length packets ≤ length c.loop-port.records = omega (
      arith,
      r.count,
      c.loop-port.invariant.holds.count,
      c.loop-port.invariant.records,
      length-map packets (frame_of c.loop-port.port c.args.self.now.state.world.buffers),
    ) in
    fits

pub copy_list-held-requires-clause-bytes : goal.copy_list-held-requires-clause-bytes
copy_list-held-requires-clause-bytes c = λ packets box.
    let r = room (goal.at.copy_list-held-requires-clause-bytes c).In-loop-port packets box in
    let fits : c.loop-port.held.bytes + length (bytes_of_all (map (frame_of c.loop-port.port c.args.self.now.state.world.buffers) packets))
    ≤ length c.loop-port.bytes = omega (arith, r.bytes, c.loop-port.invariant.holds.size, c.loop-port.invariant.bytes) in
    fits

pub loop-port-preserved : goal.loop-port-preserved
loop-port-preserved c =
    let w = c.args.self.now.state.world in
    let n = c.loop-port.port in
    let (packets, box) = get_within w.outboxes n
    (omega (arith, c.loop-port-test.true, c.outboxes-port-end.ensures.value, long (goal.at.loop-port-preserved c).After-outboxes-port-end)) in
    let front = frames_from 0 w.buffers (take n w.outboxes) in
    let more : front ++ map (frame_of n w.buffers) packets ≡ frames_from 0 w.buffers (take (n + 1) w.outboxes) =
    ap (λ m. front ++ map (frame_of m w.buffers) packets) (sym (zero-add n)) ∙ sym (frames_more 0 n w.buffers w.outboxes packets box)
    ∙ ap (λ m. frames_from 0 w.buffers (take m w.outboxes)) (sym (add-one n)) in
    record {
      holds = subst (λ fs. Holds c.args.time fs c.copy_list-held.new.records c.copy_list-held.new.bytes c.copy_list-held.result) more
          (c.copy_list-held.ensures.holds packets front box c.loop-port.invariant.holds);
      rest = keeps_on c.args.time front (map (frame_of n w.buffers) packets) c.loop-port.held c.copy_list-held.result c.args.records.now c.loop-port.records
          c.copy_list-held.new.records c.args.bytes.now c.loop-port.bytes c.copy_list-held.new.bytes c.loop-port.invariant.holds
          (c.copy_list-held.ensures.holds packets front box c.loop-port.invariant.holds) c.loop-port.invariant.rest c.copy_list-held.ensures.rest;
      records = c.copy_list-held.ensures.many.0 ∙ c.loop-port.invariant.records;
      bytes = c.copy_list-held.ensures.many.1 ∙ c.loop-port.invariant.bytes;
    }

pub returns-clause-holds : goal.returns-clause-holds
returns-clause-holds c =
    let w = c.args.self.now.state.world in
    let all = take_all c.loop-port.port w.outboxes
    (omega (arith, c.loop-port-test.false, c.outboxes-port-end.ensures.value, long (goal.at.returns-clause-holds c).After-outboxes-port-end)) in
    subst (λ l. Holds c.args.time (frames_from 0 w.buffers l) c.loop-port.records c.loop-port.bytes c.loop-port.held) all c.loop-port.invariant.holds
