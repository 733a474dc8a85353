-- The registers of the group so far.
use Rattle.std.proofs.Common.{◌≡◌, ◌≤◌, take}
use Rattle.std.specs.List.{count_by}
use Rattle.dp_model.specs.Groups.{is_in}
use Rattle.dp_model.proofs.row.Row.group_size.Given as goal

abbrev pub invariant-loop-fact : goal.invariant-loop-fact
invariant-loop-fact l = (l.size ≡ count_by (is_in l.group) (take l.fact-index l.self.facts)) × (l.size ≤ l.fact-index)
