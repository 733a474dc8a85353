-- As many elements as rounds so far, in the room for all.
use Rattle.std.proofs.Common.{◌≡◌, replicate, vec_capacity}
use Rattle.dp_lpm.proofs.table.filled.Given as goal

abbrev pub invariant-loop : goal.invariant-loop
invariant-loop g l = (l.list.items ≡ replicate l.counter l.element) × (vec_capacity l.list ≡ l.count)
