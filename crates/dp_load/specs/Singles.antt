-- A pipeline of one port, without tables and rings.
use Rattle.std.specs.Prelude.{◌≡◌, ℕ, [], ◌∷◌, Option, length, option_map}
use Rattle.dp_model.specs.declared.env.Entry.TheVariants.{Port}
use Rattle.dp_model.specs.Environments.{Environment}
use Rattle.dp_model.specs.Rules.{Question}
use Rattle.dp_load.specs.Files.{FileMap}
use Rattle.dp_load.specs.Nodes.{Node, IsLoaded}
use Rattle.dp_load.specs.Pipelines.{Plan}
use Rattle.dp_load.specs.declared.single.SingleFiles.{SingleFiles}

-- an environment with one port, and no table and no ring
pub record HasOnePort (env : Environment) : Type 0 where
  pub ports : length env.ports ≡ 1
  pub rings : env.rings ≡ []
  pub tables : env.tables ≡ 0

-- its node: the program, and the certificate if one is named
abbrev pub single_node : SingleFiles → Node
single_node files = record { entry = Port 0; program = files.program.now; cert = option_map (λ name. name.now) files.cert }

-- the pipeline of this environment, region and files
pub record IsSinglePlan (contents : Option FileMap) (env : Environment) (region : ℕ) (files : SingleFiles) (p : Plan) : Type 0 where
  pub env_is : p.env ≡ env
  pub region_is : p.region ≡ region
  pub tables_are : p.tables ≡ []
  pub question : Question
  pub nodes_are : p.nodes ≡ question ∷ []
  pub loaded : IsLoaded contents env (single_node files) question
  pub inputs_are : p.inputs ≡ files.input.now ∷ []
  pub outputs_are : p.outputs ≡ files.output.now ∷ []
