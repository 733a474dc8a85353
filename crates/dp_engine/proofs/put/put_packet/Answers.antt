-- A packet of one segment.
use Rattle.std.proofs.Common.{rules, ◌≡◌, ℕ, ◌+◌, ◌≤◌, List, [], ◌∷◌, length, Some, arith, sym, refl, ◌∙◌, subst, append-nil, length-append}
use Rattle.std.specs.Prelude.{slice_get}
use Rattle.std.specs.Io.KnownBytes.{Appends}
use Rattle.std.proofs.lemmas.Result.{on_err_weaker, on_ok_weaker}
use Rattle.dp_model.specs.Buffers.{Buffers}
use Rattle.dp_model.specs.Packets.{Packet, Segment, packet_bytes, segment_bytes}
use Rattle.dp_model.specs.Stores.{Has}
use Rattle.dp_pcap.specs.Text.{head_text, record_text, AppendsPart}
use Rattle.dp_pcap.specs.Laws.Chaining.{length_head}
use Rattle.dp_engine.proofs.put.put_packet.Goals as goal

-- its bytes are those of the segment
one_segment : (buffers : Buffers) (k : Packet) (bytes : List ℕ) → length k ≡ 1 → ((s : Segment) → slice_get k 0 ≡ Some s → bytes ≡ segment_bytes buffers s)
    → bytes ≡ packet_bytes buffers k
one_segment buffers [] bytes one at = absurd (omega (arith, one))
one_segment buffers (s ∷ []) bytes one at = at s refl ∙ sym (append-nil (segment_bytes buffers s))
one_segment buffers (s ∷ t ∷ rest) bytes one at = absurd (omega (arith, one))

pub segment_bytes-requires : goal.segment_bytes-requires
segment_bytes-requires g c =
    let (k, has, _) = c.requires.live in
    (k, has, omega (arith, c.segments.ensures k has, c.if-segments-ne1.false))

pub put_record-requires-clause-len : goal.put_record-requires-clause-len
put_record-requires-clause-len g c = omega (arith, c.segment_bytes.ensures.bound)

pub returns : goal.returns
returns g c =
    let same : (k : Packet) → Has c.args.mbufs.now.store c.args.packet k → c.segment_bytes.result.now ≡ packet_bytes c.args.mbufs.now.store.buffers k = λ k has.
    one_segment _ k _ (omega (arith, c.segments.ensures k has, c.if-segments-ne1.false)) (c.segment_bytes.ensures.value k has) in
    let written : List ℕ → List ℕ = λ bytes. record_text c.args.unit (record { time = c.args.time; bytes = bytes }) in
    record {
      ok = on_ok_weaker c.put_record.result (λ wrote k has.
          subst (λ bytes. Appends (g.W.Sink.contents c.args.w.now) (g.W.Sink.contents c.put_record.new.w) (written bytes)) (same k has) wrote)
          c.put_record.ensures.ok;
      err = on_err_weaker c.put_record.result (λ part k has.
          subst (λ bytes. AppendsPart (g.W.Sink.contents c.args.w.now) (g.W.Sink.contents c.put_record.new.w) (written bytes)) (same k has) part)
          c.put_record.ensures.err;
      failed = search rules;
      stays = search rules;
      write = search rules;
      counted = λ k has.
          subst (λ bytes. g.W.Sink.calls c.put_record.new.w ≤ g.W.Sink.calls c.args.w.now + length (written bytes)) (same k has)
          (omega (
            arith,
            c.put_record.ensures.counted,
            length_head c.args.unit c.args.time (length c.segment_bytes.result.now),
            length-append (head_text c.args.unit c.args.time (length c.segment_bytes.result.now)) c.segment_bytes.result.now,
          ));
      failures = search rules;
    }
