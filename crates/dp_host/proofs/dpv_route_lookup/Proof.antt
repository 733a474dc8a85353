-- The hop of an address.
use Rattle.std.proofs.Common.{◌≡◌, ℕ}
use Rattle.dp_host.specs.Hosts.{LookupAnswers}
use Rattle.dp_host.specs.contracts.host.Host.{the_row as R}
use Rattle.dp_host.specs.contracts.numbers.Hop.{the_row as F}
use Rattle.dp_host.proofs.Lent.{lent}
use Rattle.dp_host.proofs.host.route_found.Met.{met}
use Rattle.dp_host.proofs.dpv_route_lookup.Statement.{statement}
use Rattle.dp_host.proofs.dpv_route_lookup.Code.{unfolded, calls-dp_host::host::route_found}

abbrev Says : R.Denot → ℕ → ℕ → ℕ → F.Denot → R.Denot → F.Denot → Type 0
Says h table ip n old h' x = (h' ≡ h) × LookupAnswers table ip h.running h.missing old x n

pub dpv_route_lookup_spec : {M : Type 1} → statement M
dpv_route_lookup_spec 𝓤 𝓛 𝓜 𝓡 wired =
    lent F 2 tt Says 𝓛 𝓜 𝓡 _ _ _ _ _ _ (unfolded 𝓤 𝓛.H 𝓜 𝓡 wired) (met 𝓤 𝓛 𝓜 𝓡 (calls-dp_host::host::route_found 𝓡.env wired))
