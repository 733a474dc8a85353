-- The number is an entry exactly if it is one of those that are left.
use Rattle.std.proofs.Common.{◌≡◌, ◌==◌, drop}
use Rattle.std.specs.List.{list_any}
use Rattle.dp_ring.proofs.ring.Ring.contains.Given as goal

abbrev pub invariant-loop-k : goal.invariant-loop-k
invariant-loop-k l = list_any (λ x. x == l.fn.value) l.fn.self.entries ≡ list_any (λ x. x == l.fn.value) (drop l.k l.fn.self.entries)
