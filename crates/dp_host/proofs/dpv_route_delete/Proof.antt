-- A route is deleted.
use Rattle.dp_host.specs.Hosts.{DeleteAnswers}
use Rattle.dp_host.specs.contracts.numbers.Route.{the_row as F}
use Rattle.dp_host.proofs.Lent.{Rerouted, lent}
use Rattle.dp_host.proofs.host.route_deleted.Met.{met}
use Rattle.dp_host.proofs.dpv_route_delete.Statement.{statement}
use Rattle.dp_host.proofs.dpv_route_delete.Code.{unfolded, calls-dp_host::host::route_deleted}

pub dpv_route_delete_spec : {M : Type 1} → statement M
dpv_route_delete_spec 𝓤 𝓛 𝓜 𝓡 wired =
    lent F 0 tt (Rerouted DeleteAnswers) 𝓛 𝓜 𝓡 _ _ _ _ _ _ (unfolded 𝓤 𝓛.H 𝓜 𝓡 wired) (met 𝓤 𝓛 𝓜 𝓡 (calls-dp_host::host::route_deleted 𝓡.env wired))
