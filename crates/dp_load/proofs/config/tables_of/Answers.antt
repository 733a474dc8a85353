-- `tables_of`: one more table, and the first that is not filled.
use Rattle.std.proofs.Common.{sym}
use Rattle.std.proofs.lemmas.List.Elements.{All-push}
use Rattle.std.proofs.lemmas.Result.{err_from_is_err_and}
use Rattle.dp_lpm.specs.Routes.{HasSmallHops}
use Rattle.dp_load.proofs.Taking.{table_more, table_fault}
use Rattle.dp_load.proofs.config.tables_of.Goals as goal

pub returns-in_err-filled-clause-err : goal.returns-in_err-filled-clause-err
returns-in_err-filled-clause-err c =
    let p = err_from_is_err_and c.from_residual.result c.from_residual.ensures.1 in
    rw (p.1, p.2) (table_fault c.args.tables.now c.loop-index.filled_tables.items c.loop-index.index c.index-tables-index.result c.in_err-filled.field-0.0
    c.loop-index-test.true (sym c.index-tables-index.is) c.loop-index.invariant.hold c.in_err-filled.ensures.err)

pub loop-index-preserved : goal.loop-index-preserved
loop-index-preserved c = record {
  hold = rw c.in_ok-push.ensures.items (table_more c.args.tables.now c.loop-index.filled_tables.items c.loop-index.index c.index-tables-index.result
      c.in_ok-filled.field-0 c.loop-index-test.true (sym c.index-tables-index.is) c.loop-index.invariant.hold c.in_ok-filled.ensures.ok);
  hops = rw c.in_ok-push.ensures.items (All-push HasSmallHops c.loop-index.filled_tables.items c.in_ok-filled.field-0 c.loop-index.invariant.hops
      c.in_ok-filled.ensures.hops);
}
