-- A count of calls takes no bytes and owns nothing.
use Rattle.std.proofs.Common.{ℕ, [], ◌∷◌, refl}
use seplogic.Ra.Ura.{Ura}
use base.Logic.{ent, emp}
use types.Logic.{Logic, sem}
use mir.Val.{vstruct, vnil}
use denote.Shadow.{makes_shadow}
use Rattle.dp_pcap.specs.contracts.ghost_count.GhostCount.{the_row}

-- so any number may be its value
pub count_of_nothing : {M : Type 1} {𝓤 : Ura M} (𝓛 : Logic 𝓤) (n : ℕ) → ent 𝓤 (emp 𝓤) (sem 𝓛 (the_row.own_val (record { count = n }) (vstruct vnil ∷ [])))
count_of_nothing 𝓛 n = makes_shadow 𝓛 (the_row.own_val (record { count = n }) (vstruct vnil ∷ [])) ((λ _. (tt, tt)), tt) ((tt, (refl, tt)), tt)
