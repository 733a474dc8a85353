-- The engine is closed, and the totals are its last.
use Rattle.std.proofs.Common.{◌≡◌, ℕ}
use Rattle.dp_host.specs.Hosts.{CloseAnswers}
use Rattle.dp_host.specs.contracts.host.Host.{the_row as R}
use Rattle.dp_host.specs.contracts.numbers.Totals.{the_row as F}
use Rattle.dp_host.proofs.Lent.{lent}
use Rattle.dp_host.proofs.host.closed.Met.{met}
use Rattle.dp_host.proofs.dpv_close.Statement.{statement}
use Rattle.dp_host.proofs.dpv_close.Code.{unfolded, calls-dp_host::host::closed}

abbrev Says : R.Denot → ℕ → F.Denot → R.Denot → F.Denot → Type 0
Says h n old h' x = CloseAnswers h.running h.missing h'.running h'.missing old x n × (h'.explanation ≡ h.explanation)

pub dpv_close_spec : {M : Type 1} → statement M
dpv_close_spec 𝓤 𝓛 𝓜 𝓡 wired =
    lent F 0 tt Says 𝓛 𝓜 𝓡 _ _ _ _ _ _ (unfolded 𝓤 𝓛.H 𝓜 𝓡 wired) (met 𝓤 𝓛 𝓜 𝓡 (calls-dp_host::host::closed 𝓡.env wired))
