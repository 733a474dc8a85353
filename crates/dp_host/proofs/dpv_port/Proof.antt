-- The counts of a port.
use Rattle.dp_host.specs.declared.refusal.Refusal.TheVariants as refusal
use Rattle.dp_host.specs.Hosts.{IsPortStats, NoPort}
use Rattle.dp_host.specs.contracts.numbers.PortStats.{the_row as F}
use Rattle.dp_host.proofs.Lent.{Counted, lent}
use Rattle.dp_host.proofs.host.port_stats.Met.{met}
use Rattle.dp_host.proofs.dpv_port.Statement.{statement}
use Rattle.dp_host.proofs.dpv_port.Code.{unfolded, calls-dp_host::host::port_stats}

pub dpv_port_spec : {M : Type 1} → statement M
dpv_port_spec 𝓤 𝓛 𝓜 𝓡 wired =
    lent F 1 tt (Counted IsPortStats NoPort refusal.NoPort) 𝓛 𝓜 𝓡 _ _ _ _ _ _ (unfolded 𝓤 𝓛.H 𝓜 𝓡 wired)
    (met 𝓤 𝓛 𝓜 𝓡 (calls-dp_host::host::port_stats 𝓡.env wired))
