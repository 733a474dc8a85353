-- One more output is written out.
use Rattle.std.proofs.Common.{◌≡◌, ◌<◌, length, ◌∙◌, add-one, arith}
use Rattle.dp_runs.proofs.Closed.{closed_more, map_set_same, rest_stays}
use Rattle.dp_runs.proofs.closing.close_all.Goals as goal

pub loop-port-preserved : goal.loop-port-preserved
loop-port-preserved g c =
    let many : length c.loop-port.outs ≡ length c.args.outs.now = c.loop-port.auto.outs in
    let within : c.loop-port.port < length c.args.outs.now = omega (arith, c.loop-port-test.true, many) in
    record {
      count = omega (arith, c.push.ensures.len, c.loop-port.invariant.count);
      rest = rw (add-one c.loop-port.port)
          (rest_stays c.args.outs.now c.loop-port.outs c.loop-port.port c.loss_of.new.out many within c.loop-port.invariant.rest);
      closed = rw (add-one c.loop-port.port, c.push.ensures.items)
          (closed_more g.O.Sink.contents g.O.Outlet.taken c.args.outs.now c.loop-port.outs c.loop-port.port
          c.loss_of.new.out
          c.index-outs-port.result _ _ within c.loop-port.invariant.rest c.loop-port.invariant.closed c.loss_of.ensures.closed);
      health_kept = map_set_same _ c.loop-port.outs c.loop-port.port c.loss_of.new.out c.index-outs-port.result (omega (arith, within, many))
          c.loss_of.ensures.health ∙ c.loop-port.invariant.health_kept;
    }
