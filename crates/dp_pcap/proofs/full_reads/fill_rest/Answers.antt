-- `fill_rest`: one more call, the end of the input, or a failure.
use Rattle.std.proofs.Common.{◌-◌, length, arith, rules}
use Rattle.std.proofs.lemmas.Grind.{common_steps}
use Rattle.std.proofs.KnownBytes.{Consumes-trans}
use Rattle.dp_pcap.proofs.Pieces.{take_more-put_mid}
use Rattle.dp_pcap.proofs.full_reads.fill_rest.Goals as goal

pub loop-at-preserved : goal.loop-at-preserved
loop-at-preserved g c =
    let pulled = c.in_ok-n.ensures in
    record {
      within = omega (arith, pulled.bound);
      bytes = rw (take_more-put_mid c.loop-at.at (length c.loop-at.buf - c.loop-at.at) c.in_ok-n.n c.loop-at.buf c.pull.new.buf c.loop-at.invariant.within
          pulled.bound)
          (Consumes-trans _ _ _ _ _ c.loop-at.invariant.bytes pulled.bytes.0);
      sound = λ h. search rules;
      untouched = λ e. absurd (omega arith);
      stays = λ h. search rules;
      counted = omega (arith, pulled.counted);
      failures = omega arith;
      noted = omega arith;
    }

pub returns-in_err-n : goal.returns-in_err-n
returns-in_err-n g c = grind (arith, common_steps)

pub returns-then-n-eq0 : goal.returns-then-n-eq0
returns-then-n-eq0 g c = grind (arith, common_steps)
