-- A pass that was taken is one call more.
use Rattle.std.proofs.Common.{refl}
use Rattle.dp_host.proofs.Serving.{pass_taken}
use Rattle.dp_host.proofs.host.passed.Goals as goal

pub returns-in-Ok : goal.returns-in-Ok
returns-in-Ok c = (
  pass_taken _ _ _ _ _ _ _ (record { records = c.args.records.now; bytes = c.args.bytes.now })
      (record { records = c.pass.new.records; bytes = c.pass.new.bytes }) _ _ _ _ c.in-Some.is c.in-Ok.ensures.ok c.in-Ok.ensures.rest
      c.in-Ok.ensures.taken c.outcome_number.ensures c.room_of.ensures,
  refl,
  refl,
)
