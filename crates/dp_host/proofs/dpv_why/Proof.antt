-- The explanation is the engine's.
use Rattle.std.proofs.Common.{◌≡◌, ℕ}
use Rattle.dp_host.specs.contracts.host.Host.{the_row as R}
use Rattle.dp_host.specs.contracts.numbers.Explanation.{the_row as F}
use Rattle.dp_host.proofs.Lent.{lent}
use Rattle.dp_host.proofs.host.explanation.Met.{met}
use Rattle.dp_host.proofs.dpv_why.Statement.{statement}
use Rattle.dp_host.proofs.dpv_why.Code.{unfolded, calls-dp_host::host::explanation}

abbrev Says : R.Denot → ℕ → F.Denot → R.Denot → F.Denot → Type 0
Says h n old h' x = (h' ≡ h) × (x ≡ h.explanation) × (n ≡ 0)

pub dpv_why_spec : {M : Type 1} → statement M
dpv_why_spec 𝓤 𝓛 𝓜 𝓡 wired =
    lent F 0 tt Says 𝓛 𝓜 𝓡 _ _ _ _ _ _ (unfolded 𝓤 𝓛.H 𝓜 𝓡 wired) (met 𝓤 𝓛 𝓜 𝓡 (calls-dp_host::host::explanation 𝓡.env wired))
