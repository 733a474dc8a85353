-- `put_rest`: one more call, or a failure.
use Rattle.std.proofs.Common.{rules, arith, length}
use Rattle.std.proofs.lemmas.Slice.{between_to_end}
use Rattle.dp_pcap.proofs.Offering.{more_offered}
use Rattle.std.proofs.KnownBytes.{Appends-trans}
use Rattle.dp_pcap.proofs.Pieces.{take_more-rest}
use Rattle.std.proofs.lemmas.Grind.{common_steps}
use Rattle.dp_pcap.proofs.writing.put_rest.Goals as goal

pub loop-at-preserved : goal.loop-at-preserved
loop-at-preserved g c =
    let pushed = c.in_ok-at.ensures in
    record {
      within = search rules;
      bytes = rw (take_more-rest c.loop-at.at c.in_ok-at.field-0 c.args.piece.now) (Appends-trans _ _ _ _ _ c.loop-at.invariant.bytes pushed.bytes);
      sound = λ h. search rules;
      untouched = λ e. absurd (omega (arith, pushed.some (search rules)));
      stays = λ h. search rules;
      counted = omega (arith, pushed.counted, pushed.some (search rules), c.loop-at.invariant.counted);
      failures = omega arith;
      offered = more_offered _ _ _ c.args.piece.now _ c.loop-at.at _ c.loop-at.invariant.offered pushed.offered
          (between_to_end c.args.piece.now c.loop-at.at (length c.args.piece.now) (omega arith)) (omega (arith, pushed.some (search rules)));
    }

pub returns : goal.returns
returns g c = grind (arith, common_steps)
