-- The outputs so far are written out.
use Rattle.std.proofs.Common.{◌≡◌, map, take, drop}
use Rattle.arrayvec.specs.ArrayVec.{array_vec_len}
use Rattle.dp_runs.specs.Closing.{AreClosed, health}
use Rattle.dp_runs.proofs.closing.close_all.Given as goal

abbrev pub invariant-loop-port : goal.invariant-loop-port
invariant-loop-port g l = record {
  count : array_vec_len l.lost ≡ l.port;
  rest : drop l.port l.outs ≡ drop l.port l.initial.outs;
  health_kept : map (health g.O.Sink.is_broken g.O.Sink.failures g.O.Sink.calls) l.outs
      ≡ map (health g.O.Sink.is_broken g.O.Sink.failures g.O.Sink.calls) l.initial.outs;
  closed : AreClosed (map g.O.Sink.contents (take l.port l.initial.outs)) (map g.O.Outlet.taken (take l.port l.outs)) l.lost.items;
}
