-- `given_of`: a table that gets routes is not there.
use Rattle.std.proofs.Common.{inr, sym}
use Rattle.dp_request.proofs.reading.given_of.Goals as goal

pub returns-in-Some : goal.returns-in-Some
returns-in-Some g c = inr (inr (
  c.as_slice-2.result.now,
  c.in-Ok.survey.config,
  c.in-Some.table,
  c.in-Ok.ensures.ok,
  rw (← c.env.ensures, ← c.as_slice-3.ensures.value) (sym c.in-Some.ensures),
  c.wrong.ensures,
))
