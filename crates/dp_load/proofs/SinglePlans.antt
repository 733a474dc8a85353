-- The nodes of a pipeline of one port.
use Rattle.std.proofs.Common.{◌≡◌, List, [], ◌∷◌, length, Option, sym, ap, subst}
use Rattle.dp_model.specs.declared.env.Entry.TheVariants.{Port}
use Rattle.dp_model.specs.Environments.{Environment}
use Rattle.dp_model.specs.Rules.{Question}
use Rattle.dp_load.specs.declared.nodes.How.TheVariants.{Given}
use Rattle.dp_load.specs.Files.{FileMap}
use Rattle.dp_load.specs.Nodes.{node_of, IsLoaded}
use Rattle.dp_load.specs.Pipelines.{HasNodes}
use Rattle.dp_load.specs.Setup.{NodeFiles}
use Rattle.dp_load.specs.Singles.{HasOnePort}
use Rattle.dp_load.proofs.Planned.{has_nodes}

-- one loaded node is that of the only port
pub single_nodes : (contents : Option FileMap) (env : Environment) (files : NodeFiles) (question : Question) (nodes : List Question) → HasOnePort env
    → nodes ≡ question ∷ [] → IsLoaded contents env (node_of Given (Port 0) files) question → HasNodes env nodes
single_nodes contents env files question nodes one are loaded =
    subst (λ (list : List Question). HasNodes env list) (sym are)
    (has_nodes contents env Given (files ∷ []) [] (question ∷ []) (loaded, tt) (sym one.ports) (ap length (sym one.rings)))
