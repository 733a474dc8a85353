-- The law for environments that `Env::new` accepts; two runs with the same answers write the same.
use Rattle.std.proofs.Common.{◌≡◌, List, None, subst}
use Rattle.dp_model.specs.Environments.{fault_of}
use Rattle.dp_model.specs.Machine.{Setting, World}
use Rattle.dp_model.specs.Runs.{Nodes, Arrival, Observed, Run}
use Rattle.dp_model.specs.Starts.{IsStart}
use Rattle.dp_model.specs.CopyMachine.{Captures}
use Rattle.dp_model.specs.Laws.Limits.{ports_have_room}
use Rattle.dp_copies.proofs.WholeRuns.{run_copies}
use Rattle.dp_copies.proofs.Determinism.{captures_once}

-- the law
pub accepted_runs_copy : {T : Type 0} (c : Setting) (nodes : Nodes) (arrivals : List (Arrival T)) (w w' : World) (shown : Observed T) →
    fault_of c.env ≡ None → IsStart c.env w → Run c nodes arrivals w shown w' → Captures c.env c.tables nodes arrivals shown.answers shown.captures w'.cuts
accepted_runs_copy c nodes arrivals w w' shown accepted = run_copies c nodes arrivals w w' shown (ports_have_room c.env accepted)

-- both runs have the captures of the copies, and there is one list of these
pub same_captures : {T : Type 0} (c d : Setting) (nodes : Nodes) (arrivals : List (Arrival T)) (w w' v v' : World) (shown shown' : Observed T) →
    c.env ≡ d.env → c.tables ≡ d.tables → fault_of c.env ≡ None → IsStart c.env w → IsStart c.env v → Run c nodes arrivals w shown w' →
    Run d nodes arrivals v shown' v' → shown.answers ≡ shown'.answers → (shown.captures ≡ shown'.captures) × (w'.cuts ≡ v'.cuts)
same_captures c d nodes arrivals w w' v v' shown shown' env tables accepted first second run run' same =
    let one = accepted_runs_copy c nodes arrivals w w' shown accepted first run in
    let other = accepted_runs_copy d nodes arrivals v v' shown' (subst (λ e. fault_of e ≡ None) env accepted)
    (subst (λ e. IsStart e v) env second) run' in
    captures_once d.env d.tables nodes arrivals shown'.answers shown.captures shown'.captures w'.cuts v'.cuts
    (subst (λ answers. Captures d.env d.tables nodes arrivals answers shown.captures w'.cuts) same
    (subst (λ e. Captures e d.tables nodes arrivals shown.answers shown.captures w'.cuts) env
    (subst (λ t. Captures c.env t nodes arrivals shown.answers shown.captures w'.cuts) tables one))) other
