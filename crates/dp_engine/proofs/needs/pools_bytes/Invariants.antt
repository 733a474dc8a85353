use Rattle.std.proofs.Common.{◌≡◌, ◌+◌, ◌*◌, ◌≤◌, drop}
use Rattle.dp_engine.specs.Needs.{pool_bytes, total}
use Rattle.dp_engine.proofs.needs.pools_bytes.Given as goal

abbrev pub invariant-loop-spec : goal.invariant-loop-spec
invariant-loop-spec l = (l.sum + total pool_bytes (drop l.spec-index l.specs) ≡ total pool_bytes l.specs) × (l.sum ≤ 277082112 * l.spec-index)
