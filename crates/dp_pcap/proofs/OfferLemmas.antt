-- A list of offers takes no bytes and owns nothing.
use Rattle.std.proofs.Common.{ℕ, List, [], ◌∷◌, refl}
use seplogic.Ra.Ura.{Ura}
use base.Logic.{ent, emp}
use types.Logic.{Logic, sem}
use mir.Val.{vstruct, vnil}
use denote.Shadow.{makes_shadow}
use Rattle.dp_pcap.specs.contracts.offers.Offers.{the_row}

-- so any list may be its value
pub offers_of_nothing : {M : Type 1} {𝓤 : Ura M} (𝓛 : Logic 𝓤) (ps : List (List ℕ)) →
    ent 𝓤 (emp 𝓤) (sem 𝓛 (the_row.own_val (record { pieces = ps }) (vstruct vnil ∷ [])))
offers_of_nothing 𝓛 ps = makes_shadow 𝓛 (the_row.own_val (record { pieces = ps }) (vstruct vnil ∷ [])) ((λ _. (tt, tt)), tt) ((tt, (refl, tt)), tt)
