use Rattle.std.proofs.Common.{◌≡◌, ◌+◌, ◌*◌, ◌≤◌, drop}
use Rattle.dp_engine.specs.Needs.{ring_bytes, total}
use Rattle.dp_engine.proofs.needs.rings_bytes.Given as goal

abbrev pub invariant-loop-count : goal.invariant-loop-count
invariant-loop-count l = (l.sum + total ring_bytes (drop l.count-index l.counts) ≡ total ring_bytes l.counts) × (l.sum ≤ 262208 * l.count-index)
