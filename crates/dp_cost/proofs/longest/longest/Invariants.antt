-- The longest ways from this label on are known.
use Rattle.std.proofs.Common.{◌≡◌, ℕ, ◌≤◌, length}
use Rattle.dp_cost.specs.Costs.{IsLongest, way_at}
use Rattle.dp_cost.proofs.longest.longest.Given as goal

abbrev pub invariant-loop-label : goal.invariant-loop-label
invariant-loop-label l =
    (l.label ≤ length l.instrs) × (length l.ways ≡ 1025) × ((k : ℕ) → l.label ≤ k → IsLongest l.instrs k (way_at l.ways k))
    × ((k : ℕ) → way_at l.ways k ≤ 1024)

abbrev pub decreases-loop-label : goal.decreases-loop-label
decreases-loop-label l = l.label
