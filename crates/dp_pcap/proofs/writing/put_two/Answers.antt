-- `put_two`: a head and then a body.
use Rattle.std.proofs.Common.{rules, inr, arith}
use Rattle.std.proofs.lemmas.Result.{on_ok_weaker, on_err_weaker}
use Rattle.std.proofs.KnownBytes.{Appends-trans}
use Rattle.std.specs.Io.KnownBytes.{Appends}
use Rattle.dp_pcap.specs.Laws.Chaining.{AppendsPart-after}
use Rattle.dp_pcap.specs.Offering.{OffersWhole}
use Rattle.std.proofs.lemmas.Grind.{common_steps}
use Rattle.dp_pcap.proofs.writing.put_two.Goals as goal

pub returns : goal.returns
returns g c =
    let taken : Appends (g.W.Sink.contents c.args.w.now) (g.W.Sink.contents c.put.new.w) c.args.head.now = search rules in
    let offered : OffersWhole (g.W.Sink.offers c.args.w.now) (g.W.Sink.offers c.put.new.w) c.args.head.now = search rules in
    let body = c.put-2.ensures in
    record {
      ok = on_ok_weaker c.put-2.result (λ whole. Appends-trans _ _ _ _ _ taken whole) body.ok;
      err = on_err_weaker c.put-2.result (λ part. AppendsPart-after _ _ _ _ _ taken part) body.err;
      failed = search rules;
      stays = search rules;
      counted = search rules;
      failures = search rules;
      offered = on_ok_weaker c.put-2.result (λ whole. (_, offered, whole)) body.offered;
      offered_part = on_err_weaker c.put-2.result (λ part. inr (_, offered, part)) body.offered_part;
    }

pub returns-in_err-put : goal.returns-in_err-put
returns-in_err-put g c = grind (arith, common_steps)
