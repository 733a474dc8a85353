-- The counts of a ring.
use Rattle.dp_host.specs.declared.refusal.Refusal.TheVariants as refusal
use Rattle.dp_host.specs.Hosts.{IsRingStats, NoRing}
use Rattle.dp_host.specs.contracts.numbers.RingStats.{the_row as F}
use Rattle.dp_host.proofs.Lent.{Counted, lent}
use Rattle.dp_host.proofs.host.ring_stats.Met.{met}
use Rattle.dp_host.proofs.dpv_ring.Statement.{statement}
use Rattle.dp_host.proofs.dpv_ring.Code.{unfolded, calls-dp_host::host::ring_stats}

pub dpv_ring_spec : {M : Type 1} → statement M
dpv_ring_spec 𝓤 𝓛 𝓜 𝓡 wired =
    lent F 1 tt (Counted IsRingStats NoRing refusal.NoRing) 𝓛 𝓜 𝓡 _ _ _ _ _ _ (unfolded 𝓤 𝓛.H 𝓜 𝓡 wired)
    (met 𝓤 𝓛 𝓜 𝓡 (calls-dp_host::host::ring_stats 𝓡.env wired))
