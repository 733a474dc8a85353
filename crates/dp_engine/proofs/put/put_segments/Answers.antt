-- A record written segment by segment: the segment is derived once, and each goal is one step from there.
use Rattle.std.proofs.Common.{◌≡◌, ◌+◌, length, Some, arith, rules, refl, append-nil, []}
use Rattle.std.specs.Prelude.{slice_get}
use Rattle.dp_model.specs.Packets.{Packet, Segment, packet_bytes, segment_bytes}
use Rattle.dp_model.specs.Stores.{Has}
use Rattle.dp_model.specs.Laws.Lists.{get_within}
use Rattle.dp_pcap.specs.Text.{head_text}
use Rattle.dp_engine.proofs.Called.{called_head, called_piece, called_front}
use Rattle.dp_engine.proofs.Writing.{appends_piece, part_before, part_piece, sound_after, on_err_of}
use Rattle.dp_engine.proofs.put.put_segments.Goals as goal
use Rattle.dp_engine.proofs.put.put_segments.Goals.{After-segment_bytes}

-- the segment, and that its bytes are those that are written
part : (g : _) (c : After-segment_bytes g) (k : Packet) → Has c.args.mbufs.now.store c.args.packet k → (s : Segment)
    × (slice_get k c.loop-index.index ≡ Some s) × (c.segment_bytes.result.now ≡ segment_bytes c.args.mbufs.now.store.buffers s)
part g c k has =
    let (s, here) = get_within k c.loop-index.index (omega (arith, c.segments-index-end.ensures k has)) in
    (s, here, c.segment_bytes.ensures.value k has s here)

pub returns-in_err-put_head : goal.returns-in_err-put_head
returns-in_err-put_head g c = record {
  ok = search rules;
  err = on_err_of c.from_residual.result (λ k has. rw (← c.length.ensures.value k has) (part_before _ _ _ _ c.in_err-put_head.ensures.err));
  failed = search rules;
  stays = search rules;
  write = search rules;
  counted = λ k has. called_head _ _ c.args.unit c.args.time _ _ c.in_err-put_head.ensures.counted;
  failures = search rules;
}

pub loop-index-init : goal.loop-index-init
loop-index-init g c = record {
  wrote = λ k has. rw (append-nil, ← c.length.ensures.value k has) c.in_ok-put_head.ensures.ok;
  sound = search rules;
  failures = search rules;
  counted = λ k has. called_head _ _ c.args.unit c.args.time _ [] c.in_ok-put_head.ensures.counted;
}

pub returns-in_err-put_bytes : goal.returns-in_err-put_bytes
returns-in_err-put_bytes g c = record {
  ok = search rules;
  err = on_err_of c.from_residual-in_err-put_bytes.result (λ k has.
      let (s, here, bytes) = part g (goal.at.returns-in_err-put_bytes g c).After-segment_bytes k has in
      part_piece _ _ _ _ (segment_bytes c.args.mbufs.now.store.buffers) k c.loop-index.index s c.segment_bytes.result.now here bytes
      (c.loop-index.invariant.wrote k has) c.in_err-put_bytes.ensures.err);
  failed = search rules;
  stays = search rules;
  write = search rules;
  counted = λ k has.
      let b = c.args.mbufs.now.store.buffers in
      let (s, here, bytes) = part g (goal.at.returns-in_err-put_bytes g c).After-segment_bytes k has in
      called_front _ _ (head_text c.args.unit c.args.time (length (packet_bytes b k))) (segment_bytes b) k (c.loop-index.index + 1)
      (called_piece _ _ _ _ (segment_bytes b) k c.loop-index.index s c.segment_bytes.result.now here bytes (c.loop-index.invariant.counted k has)
      c.in_err-put_bytes.ensures.counted);
  failures = search rules;
}

pub loop-index-preserved : goal.loop-index-preserved
loop-index-preserved g c = record {
  wrote = λ k has.
      let (s, here, bytes) = part g (goal.at.loop-index-preserved g c).After-segment_bytes k has in
      appends_piece _ _ _ _ (segment_bytes c.args.mbufs.now.store.buffers) k c.loop-index.index s c.segment_bytes.result.now here bytes
      (c.loop-index.invariant.wrote k has) c.in_ok-put_bytes.ensures.ok;
  sound = sound_after g.W.Sink.is_broken c.loop-index.w c.put_bytes.new.w c.segment_bytes.result.now c.loop-index.invariant.sound
      (λ some. c.in_ok-put_bytes.ensures.sound some refl) c.in_ok-put_bytes.ensures.untouched;
  failures = search rules;
  counted = λ k has.
      let (s, here, bytes) = part g (goal.at.loop-index-preserved g c).After-segment_bytes k has in
      called_piece _ _ _ _ (segment_bytes c.args.mbufs.now.store.buffers) k c.loop-index.index s c.segment_bytes.result.now here bytes
      (c.loop-index.invariant.counted k has) c.in_ok-put_bytes.ensures.counted;
}
