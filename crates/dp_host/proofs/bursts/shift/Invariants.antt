-- The records so far have their new offsets.
use Rattle.std.proofs.Common.{◌≡◌, ◌++◌, take, drop, map}
use Rattle.dp_host.specs.Bursts.{shifted}
use Rattle.dp_host.proofs.bursts.shift.Given as goal

abbrev pub invariant-loop-k : goal.invariant-loop-k
invariant-loop-k l = l.records ≡ map (shifted l.before) (take l.k l.initial.records) ++ drop l.k l.initial.records
