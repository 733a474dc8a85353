-- `add_routes`: one more route, all of them, and the first that is refused.
use Rattle.std.proofs.Common.{arith, sym}
use Rattle.std.proofs.lemmas.List.{length-map, take_all}
use Rattle.toml.specs.View.{view}
use Rattle.dp_load.specs.Views.{values}
use Rattle.dp_load.proofs.Taking.{get_seen, route_more}
use Rattle.dp_load.proofs.routes.add_routes.Goals as goal

pub loop-index-preserved : goal.loop-index-preserved
loop-index-preserved c = record {
  taken = route_more c.args.table.now c.loop-index.table c.add_route.new.table c.args.routes.now c.loop-index.index c.index-routes-index.result
      c.loop-index-test.true (sym c.index-routes-index.is) c.loop-index.invariant.taken c.in_default.ensures.ok;
  hops = λ small. c.add_route.ensures.hops (c.loop-index.invariant.hops small);
}

pub returns-clause-ok : goal.returns-clause-ok
returns-clause-ok c =
    rw (take_all c.loop-index.index (values c.args.routes.now) (omega (arith, c.loop-index-test.false, length-map c.args.routes.now view)))
    at c.loop-index.invariant.taken

pub returns-in-Err-clause-refused : goal.returns-in-Err-clause-refused
returns-in-Err-clause-refused c = record {
  reached = c.loop-index.table;
  before = c.loop-index.invariant.taken;
  refused = rw (get_seen view c.args.routes.now c.loop-index.index c.index-routes-index.result c.loop-index-test.true (sym c.index-routes-index.is))
      c.in-Err.ensures.refused;
}
