-- A packet that is one object.
use Rattle.std.proofs.Common.{rules, ◌≡◌, ℕ, ◌+◌, ◌≤◌, List, length, arith, subst, length-append}
use Rattle.std.specs.Io.KnownBytes.{Appends}
use Rattle.std.proofs.lemmas.Result.{on_err_weaker, on_ok_weaker}
use Rattle.dp_model.specs.Packets.{Packet, packet_bytes}
use Rattle.dp_model.specs.Stores.{Has}
use Rattle.dp_pcap.specs.Text.{head_text, record_text, AppendsPart}
use Rattle.dp_pcap.specs.Laws.Chaining.{length_head}
use Rattle.dp_engine.proofs.put.put_and_free.Goals as goal

pub put_record-outcome-requires-clause-len : goal.put_record-outcome-requires-clause-len
put_record-outcome-requires-clause-len g c = omega (arith, c.in-Some.ensures.bound)

pub free_sole-requires : goal.free_sole-requires
free_sole-requires g c = let (k, has, _) = c.requires.live in (k, has, (c.in-Some.ensures.some k has).0)

pub returns-clause-puts : goal.returns-clause-puts
returns-clause-puts g c =
    let same : (k : Packet) → Has c.args.mbufs.now.store c.args.packet k → c.in-Some.bytes.now ≡ packet_bytes c.args.mbufs.now.store.buffers k = λ k has.
    (c.in-Some.ensures.some k has).1 in
    let written : List ℕ → List ℕ = λ bytes. record_text c.args.unit (record { time = c.args.time; bytes = bytes }) in
    record {
      ok = on_ok_weaker c.put_record-outcome.result (λ wrote k has.
          subst (λ bytes. Appends (g.W.Sink.contents c.args.w.now) (g.W.Sink.contents c.put_record-outcome.new.w) (written bytes)) (same k has) wrote)
          c.put_record-outcome.ensures.ok;
      err = on_err_weaker c.put_record-outcome.result (λ part k has.
          subst (λ bytes. AppendsPart (g.W.Sink.contents c.args.w.now) (g.W.Sink.contents c.put_record-outcome.new.w) (written bytes)) (same k has) part)
          c.put_record-outcome.ensures.err;
      failed = search rules;
      stays = search rules;
      write = search rules;
      counted = λ k has.
          subst (λ bytes. g.W.Sink.calls c.put_record-outcome.new.w ≤ g.W.Sink.calls c.args.w.now + length (written bytes)) (same k has)
          (omega (
            arith,
            c.put_record-outcome.ensures.counted,
            length_head c.args.unit c.args.time (length c.in-Some.bytes.now),
            length-append (head_text c.args.unit c.args.time (length c.in-Some.bytes.now)) c.in-Some.bytes.now,
          ));
      failures = search rules;
    }
