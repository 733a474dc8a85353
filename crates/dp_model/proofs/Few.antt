-- A buffer has at most as many references as there are buffers in all pools.
use Rattle.std.proofs.Common.{◌≤◌, ◌≡◌, List, None, arith}
use Rattle.std.specs.Prelude.{sum_by}
use Rattle.std.proofs.lemmas.List.Sums.{count_by-le-length}
use Rattle.dp_model.specs.declared.env.PoolSpec.{PoolSpec}
use Rattle.dp_model.specs.Environments.{Environment, fault_of}
use Rattle.dp_model.specs.Buffers.{Number, same_number}
use Rattle.dp_model.specs.Packets.{Segment, refs, AreOwned}
use Rattle.dp_model.specs.Laws.Few.{live_few}
use Rattle.dp_model.proofs.EnvLemmas.{total_small}

pub refs_few : (pools : List PoolSpec) (live : List Segment) (b : Number) → AreOwned pools live → refs live b ≤ sum_by (λ p. p.count) pools
refs_few pools live b owned = omega (arith, live_few pools live owned, count_by-le-length (λ (s : Segment). same_number s.buffer b) live)

-- which fit into 16 bits in an environment
pub refs_small : (env : Environment) (live : List Segment) (b : Number) → fault_of env ≡ None → AreOwned env.pools live → refs live b ≤ 65535
refs_small env live b right owned = omega (arith, refs_few env.pools live b owned, total_small env right)
