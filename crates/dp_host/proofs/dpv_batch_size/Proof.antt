-- The size that a batch needs.
use Rattle.std.proofs.Common.{◌≡◌, ℕ}
use Rattle.dp_host.specs.declared.refusal.Refusal.TheVariants as refusal
use Rattle.dp_host.specs.Hosts.{SetsOrRefuses, IsRoom}
use Rattle.dp_host.specs.contracts.host.Host.{the_row as R}
use Rattle.dp_host.specs.contracts.numbers.Room.{the_row as F}
use Rattle.dp_host.proofs.Lent.{lent}
use Rattle.dp_host.proofs.host.batch_size.Met.{met}
use Rattle.dp_host.proofs.dpv_batch_size.Statement.{statement}
use Rattle.dp_host.proofs.dpv_batch_size.Code.{unfolded, calls-dp_host::host::batch_size}

abbrev Says : R.Denot → ℕ → F.Denot → R.Denot → F.Denot → Type 0
Says h n old h' x = (h' ≡ h) × SetsOrRefuses IsRoom (λ e. ⊥) refusal.NotOpen h.running h.missing old x n

pub dpv_batch_size_spec : {M : Type 1} → statement M
dpv_batch_size_spec 𝓤 𝓛 𝓜 𝓡 wired =
    lent F 0 tt Says 𝓛 𝓜 𝓡 _ _ _ _ _ _ (unfolded 𝓤 𝓛.H 𝓜 𝓡 wired) (met 𝓤 𝓛 𝓜 𝓡 (calls-dp_host::host::batch_size 𝓡.env wired))
