-- The records of a transmit list: the packet whose record is written is derived once, and each goal is one step from there.
use Rattle.std.proofs.Common.{◌≡◌, ◌+◌, ◌≤◌, ◌<◌, List, [], length, suc, Some, refl, sym, ap, ◌∙◌, subst, add-one, arith, rules}
use Rattle.std.specs.Prelude.{drop, slice_get}
use Rattle.std.specs.Io.KnownBytes.{Appends}
use Rattle.std.proofs.lemmas.Option.{same_Some}
use Rattle.dp_model.specs.Packets.{Packet}
use Rattle.dp_model.specs.Laws.Lists.{get_within}
use Rattle.dp_pcap.specs.Text.{AppendsPart}
use Rattle.dp_engine.specs.Drains.{record_of}
use Rattle.dp_model.specs.declared.queue.Queue.TheVariants.{Tx}
use Rattle.dp_engine.specs.Handles.{Core}
use Rattle.dp_engine.proofs.Called.{called_piece, called_written, called_more}
use Rattle.dp_engine.proofs.Clearing.{left_all, left_front, at_front, left_more, left_none, changed_again}
use Rattle.dp_engine.proofs.Writing.{appends_piece, all_written, part_written, on_err_at, on_ok_at}
use Rattle.dp_engine.proofs.machine.Machine.drain_list.Goals as goal
use Rattle.dp_engine.proofs.machine.Machine.drain_list.Goals.{After-put_first}

-- the packet that the loop has reached
next : (g : _) (c : After-put_first g) (packets : List Packet) → slice_get c.args.self.now.state.world.outboxes c.args.port ≡ Some packets
    → (k : Packet) × (slice_get packets c.loop-sent.sent ≡ Some k)
next g c packets box =
    let (others, box', count) = c.count-count.ensures.list in
    let same : length others ≡ length packets = ap length (same_Some _ _ (sym box' ∙ box)) in
    get_within packets c.loop-sent.sent (omega (arith, count, same))

pub loop-sent-init : goal.loop-sent-init
loop-sent-init g c = record {
  left = left_all (Tx c.args.port) c.args.self.now;
  wrote = search rules;
  sound = search rules;
  failures = search rules;
  counted = search rules;
}

pub put_first-requires-clause-there : goal.put_first-requires-clause-there
put_first-requires-clause-there g c =
    let (packets, box, _) = c.count-count.ensures.list in
    subst (λ (m : Core). c.args.port < length m.frames.outboxes) (sym (c.loop-sent.invariant.left packets box)) c.requires.there

pub put_first-requires-clause-some : goal.put_first-requires-clause-some
put_first-requires-clause-some g c =
    let (packets, box, count) = c.count-count.ensures.list in
    let (k, here) = get_within packets c.loop-sent.sent (omega (arith, count)) in
    (drop (suc c.loop-sent.sent) packets, k, left_front (Tx c.args.port) _ _ c.loop-sent.sent packets k c.loop-sent.invariant.left box here)

pub drop_rest-requires : goal.drop_rest-requires
drop_rest-requires g c =
    let (packets, box, _) = c.count-count.ensures.list in
    let (k, here) = next g (goal.at.drop_rest-requires g c).After-put_first packets box in
    let now = left_more (Tx c.args.port) c.args.self.now c.loop-sent.self c.put_first.new.self c.loop-sent.sent packets k c.loop-sent.invariant.left box here
    c.put_first.ensures.rest in
    subst (λ (m : Core). c.args.port < length m.frames.outboxes) (sym now) c.requires.there

pub returns-then-is_err-clause-err : goal.returns-then-is_err-clause-err
returns-then-is_err-clause-err g c =
    let (packets, box, _) = c.count-count.ensures.list in
    let (k, here) = next g (goal.at.returns-then-is_err-clause-err g c).After-put_first packets box in
    part_written c.args.unit c.args.time c.args.port c.args.self.now.state.world _ _ _ c.loop-sent.sent c.loop-sent.sent packets k box refl here
    (c.loop-sent.invariant.wrote packets box)
    (at_front (λ b k. AppendsPart (g.W.Sink.contents c.loop-sent.w) (g.W.Sink.contents c.put_first.new.w) (record_of c.args.unit c.args.time b k))
    c.args.self.now c.loop-sent.self c.args.port c.loop-sent.sent packets k c.loop-sent.invariant.left box here
    (on_err_at c.put_first.result c.if-is_err.ensures.value c.put_first.ensures.err))

pub returns-then-is_err-clause-counted : goal.returns-then-is_err-clause-counted
returns-then-is_err-clause-counted g c =
    let w = c.args.self.now.state.world in
    let (packets, box, _) = c.count-count.ensures.list in
    let (k, here) = next g (goal.at.returns-then-is_err-clause-counted g c).After-put_first packets box in
    called_written c.args.unit c.args.time c.args.port w packets _ _ (c.loop-sent.sent + 1) box
    (called_piece _ _ _ [] (record_of c.args.unit c.args.time w.buffers) packets c.loop-sent.sent k _ here refl
    (c.loop-sent.invariant.counted packets box)
    (at_front (λ b k. g.W.Sink.calls c.put_first.new.w ≤ g.W.Sink.calls c.loop-sent.w + length (record_of c.args.unit c.args.time b k))
    c.args.self.now c.loop-sent.self c.args.port c.loop-sent.sent packets k c.loop-sent.invariant.left box here c.put_first.ensures.counted))

pub returns-then-is_err-clause-empty : goal.returns-then-is_err-clause-empty
returns-then-is_err-clause-empty g c =
    let (packets, box, _) = c.count-count.ensures.list in
    let (k, here) = next g (goal.at.returns-then-is_err-clause-empty g c).After-put_first packets box in
    let now = left_more (Tx c.args.port) c.args.self.now c.loop-sent.self c.put_first.new.self c.loop-sent.sent packets k c.loop-sent.invariant.left box here
    c.put_first.ensures.rest in
    changed_again (Tx c.args.port) c.args.self.now c.put_first.new.self c.drop_rest.new.self _ [] now c.drop_rest.ensures

pub loop-sent-preserved : goal.loop-sent-preserved
loop-sent-preserved g c = record {
  left = λ packets box.
      let (k, here) = next g (goal.at.loop-sent-preserved g c).After-put_first packets box in
      rw add-one (left_more (Tx c.args.port) c.args.self.now c.loop-sent.self c.put_first.new.self c.loop-sent.sent packets k
      c.loop-sent.invariant.left box here
      c.put_first.ensures.rest);
  wrote = λ packets box.
      let (k, here) = next g (goal.at.loop-sent-preserved g c).After-put_first packets box in
      appends_piece _ _ _ [] (record_of c.args.unit c.args.time c.args.self.now.state.world.buffers) packets c.loop-sent.sent k _ here refl
      (c.loop-sent.invariant.wrote packets box)
      (at_front (λ b k. Appends (g.W.Sink.contents c.loop-sent.w) (g.W.Sink.contents c.put_first.new.w) (record_of c.args.unit c.args.time b k))
      c.args.self.now c.loop-sent.self c.args.port c.loop-sent.sent packets k c.loop-sent.invariant.left box here
      (on_ok_at c.put_first.result c.if-is_err.ensures.value c.put_first.ensures.ok));
  sound = λ sound. search rules;
  failures = search rules;
  counted = λ packets box.
      let (k, here) = next g (goal.at.loop-sent-preserved g c).After-put_first packets box in
      called_piece _ _ _ [] (record_of c.args.unit c.args.time c.args.self.now.state.world.buffers) packets c.loop-sent.sent k _ here refl
      (c.loop-sent.invariant.counted packets box)
      (at_front (λ b k. g.W.Sink.calls c.put_first.new.w ≤ g.W.Sink.calls c.loop-sent.w + length (record_of c.args.unit c.args.time b k))
      c.args.self.now c.loop-sent.self c.args.port c.loop-sent.sent packets k c.loop-sent.invariant.left box here c.put_first.ensures.counted);
}

pub returns-clause-ok : goal.returns-clause-ok
returns-clause-ok g c =
    let (packets, box, count) = c.count-count.ensures.list in
    all_written c.args.unit c.args.time c.args.port c.args.self.now.state.world _ _ c.count-count.result c.loop-sent.sent packets box (omega arith)
    (omega (arith, count)) (omega (arith, count)) (c.loop-sent.invariant.wrote packets box)

pub returns-clause-counted : goal.returns-clause-counted
returns-clause-counted g c =
    let w = c.args.self.now.state.world in
    let (packets, box, count) = c.count-count.ensures.list in
    let same : c.loop-sent.sent ≡ c.count-count.result = omega arith in
    called_written c.args.unit c.args.time c.args.port w packets _ _ (c.count-count.result + 1) box
    (rw (sym same) (called_more _ _ (record_of c.args.unit c.args.time w.buffers) packets c.loop-sent.sent (c.loop-sent.invariant.counted packets box)))

pub returns-clause-empty : goal.returns-clause-empty
returns-clause-empty g c =
    let (packets, box, count) = c.count-count.ensures.list in
    left_none (Tx c.args.port) c.args.self.now c.loop-sent.self c.loop-sent.sent packets c.loop-sent.invariant.left box (omega (arith, count))
