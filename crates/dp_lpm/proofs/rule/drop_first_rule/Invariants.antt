-- The rules that moved down so far, and the others.
use Rattle.std.proofs.Common.{◌-◌}
use Rattle.dp_lpm.proofs.Removing.{GoneDown}
use Rattle.dp_lpm.proofs.rule.drop_first_rule.Given as goal

abbrev pub invariant-loop-at : goal.invariant-loop-at
invariant-loop-at l = GoneDown l.initial.rules l.at l.rules

abbrev pub decreases-loop-at : goal.decreases-loop-at
decreases-loop-at l = l.last - l.at
