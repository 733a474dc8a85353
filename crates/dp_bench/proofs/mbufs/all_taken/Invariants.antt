use Rattle.std.proofs.Common.{◌≤◌}
use Rattle.dp_bench.specs.Mbufs.{AreAsBefore}
use Rattle.dp_bench.proofs.mbufs.all_taken.Given as goal

abbrev pub invariant-loop : goal.invariant-loop
invariant-loop l = record { served : l.served ≤ l.counter; same : AreAsBefore l.initial.m l.m }
