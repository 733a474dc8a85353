-- The counts of a pool.
use Rattle.dp_host.specs.declared.refusal.Refusal.TheVariants as refusal
use Rattle.dp_host.specs.Hosts.{IsPoolStats, NoPool}
use Rattle.dp_host.specs.contracts.numbers.PoolStats.{the_row as F}
use Rattle.dp_host.proofs.Lent.{Counted, lent}
use Rattle.dp_host.proofs.host.pool_stats.Met.{met}
use Rattle.dp_host.proofs.dpv_pool.Statement.{statement}
use Rattle.dp_host.proofs.dpv_pool.Code.{unfolded, calls-dp_host::host::pool_stats}

pub dpv_pool_spec : {M : Type 1} → statement M
dpv_pool_spec 𝓤 𝓛 𝓜 𝓡 wired =
    lent F 1 tt (Counted IsPoolStats NoPool refusal.NoPool) 𝓛 𝓜 𝓡 _ _ _ _ _ _ (unfolded 𝓤 𝓛.H 𝓜 𝓡 wired)
    (met 𝓤 𝓛 𝓜 𝓡 (calls-dp_host::host::pool_stats 𝓡.env wired))
