-- The counts of one more port.
use Rattle.std.proofs.Common.{◌<◌, length, sym, ◌∙◌, add-one, arith}
use Rattle.dp_runs.proofs.Closed.{lowered_more}
use Rattle.dp_runs.proofs.closing.lowered_ports.Goals as goal

pub loop-k-preserved : goal.loop-k-preserved
loop-k-preserved c =
    let within : c.loop-k.k < length c.args.ports.now = omega (arith, c.loop-k-test.true) in
    record {
      count = omega (arith, c.push.ensures.len, c.loop-k.invariant.count);
      ports = c.push.ensures.items ∙ rw (add-one, c.lowered.ensures, c.loss_at.ensures, c.loop-k.invariant.ports)
          (sym (lowered_more 0 c.loop-k.k c.args.ports.now c.loop-k.k _ c.args.lost.now (omega arith) within));
    }
