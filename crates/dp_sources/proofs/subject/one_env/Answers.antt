-- The numbers of the one port are within the limits.
use Rattle.std.proofs.lemmas.Option.{none-some}
use Rattle.dp_sources.proofs.subject.one_env.Goals as goal

pub unreachable-requires : goal.unreachable-requires
unfolding lib.Count.ones
unreachable-requires c = none-some c.in-Err.field-0 c.in-Err.ensures.err
