-- `read_pipeline`: the words of `--routes` are right, and the files are read; the configuration or a table is missing.
use Rattle.std.proofs.Common.{inr, map}
use Rattle.dp_request.proofs.Stops.{map_err}
use Rattle.dp_request.proofs.reading.read_pipeline.Goals as goal

pub returns : goal.returns
returns g c = map_err c.given_of.result (λ reply lacks. inr (
  map (λ file. file.table) c.in_ok-routes.routes.items,
  rw (c.in_ok-routes.ensures.tables, c.as_slice.ensures.value) (rw c.values.ensures at c.in_ok-named.ensures.named),
  inr lacks,
)) c.given_of.ensures
