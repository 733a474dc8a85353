-- Internal: all buffers of a pool are free where no segment is live.
use Rattle.std.proofs.Common.{◌≡◌, ℕ, zero, suc, List, [], refl, arith}
use Rattle.dp_model.specs.declared.env.PoolSpec.{PoolSpec}
use Rattle.dp_model.specs.Environments.{count_at}
use Rattle.dp_model.specs.Packets.{free_below, available}

-- without live segments all are free
all_free : (pool n : ℕ) → free_below [] pool n ≡ n
all_free pool zero = refl
all_free pool (suc n) = omega (arith, all_free pool n)

pub available_all : (pools : List PoolSpec) (pool : ℕ) → available pools [] pool ≡ count_at pools pool
available_all pools pool = all_free pool (count_at pools pool)
