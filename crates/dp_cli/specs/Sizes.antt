-- The bytes that each pool, ring and transmit list takes.
use Rattle.std.specs.Prelude.{◌≡◌, ℕ, ◌+◌, List, map}
use Rattle.dp_model.specs.declared.env.PoolSpec.{PoolSpec}
use Rattle.dp_model.specs.Environments.{Environment}
use Rattle.dp_engine.specs.Needs.{zone_bytes, objects_len, queue_len, ring_bytes, total}
use Rattle.dp_cli.specs.declared.sizes.PoolSize.{PoolSize}
use Rattle.dp_cli.specs.declared.sizes.Sizes.{Sizes}

abbrev pub pool_size : PoolSpec → PoolSize
pool_size s = record { buffers = zone_bytes (objects_len s); queue = zone_bytes (queue_len s) }

abbrev pub ring_sizes : Environment → List ℕ
ring_sizes e = map (λ r. ring_bytes r.count) e.rings

abbrev pub list_sizes : Environment → List ℕ
list_sizes e = map (λ p. ring_bytes p.queue) e.ports

-- these are the sizes of an environment
pub record AreSizes (e : Environment) (sizes : Sizes) : Type 0 where
  pub pools : sizes.pools.items ≡ map pool_size e.pools
  pub rings : sizes.rings.items ≡ ring_sizes e
  pub lists : sizes.lists.items ≡ list_sizes e

-- the sum of all of them
abbrev pub sum_of : Sizes → ℕ
sum_of sizes = total (λ p. p.buffers + p.queue) sizes.pools.items + total (λ n. n) sizes.rings.items + total (λ n. n) sizes.lists.items
