-- The result of loading a pipeline file.
use Rattle.std.specs.Prelude.{◌≡◌, ℕ, ◌⊎◌, List, map, Option, None, Ok}
use Rattle.dp_model.specs.Environments.{fault_of}
use Rattle.dp_lpm.specs.Routes.{RouteTable}
use Rattle.toml.specs.Data.{Members}
use Rattle.dp_load.specs.declared.error.PipeError.{PipeError}
use Rattle.dp_load.specs.declared.nodes.How.{How}
use Rattle.dp_load.specs.Setup.{Setup, setup_in}
use Rattle.dp_load.specs.Config.{IsTomlTable, environment_of, HaveTheirRoutes, IsFaultOf}
use Rattle.dp_load.specs.Files.{FileMap}
use Rattle.dp_load.specs.Nodes.{Node, all_nodes, AreLoaded, FailsAtFirst}
use Rattle.dp_load.specs.Pipelines.{Plan}

-- the nodes in a file
abbrev pub nodes_in : How → Setup → List Node
nodes_in how s = all_nodes how (map (λ port. port.files) s.ports) (map (λ ring. ring.files) s.rings)

-- the pipeline of a configuration
pub record IsPlanOf (contents : Option FileMap) (how : How) (s : Setup) (p : Plan) : Type 0 where
  pub region : p.region ≡ s.region
  pub env : p.env ≡ environment_of s
  pub tables : HaveTheirRoutes s.tables p.tables
  pub nodes : AreLoaded contents (environment_of s) (nodes_in how s) p.nodes
  pub inputs : p.inputs ≡ map (λ port. port.input) s.ports
  pub outputs : p.outputs ≡ map (λ port. port.output) s.ports

-- the pipeline of a text
pub record IsLoadedFrom (contents : Option FileMap) (how : How) (text : List ℕ) (p : Plan) : Type 0 where
  pub top : Members
  pub setup : Setup
  pub toml : IsTomlTable text top
  pub reads : setup_in top ≡ Ok setup
  pub fits : fault_of (environment_of setup) ≡ None
  pub plan : IsPlanOf contents how setup p

-- the text is a file with an environment and tables, but a node of it is not loaded
pub record HasBadNode (contents : Option FileMap) (how : How) (text : List ℕ) (e : PipeError) : Type 0 where
  pub top : Members
  pub setup : Setup
  pub toml : IsTomlTable text top
  pub reads : setup_in top ≡ Ok setup
  pub fits : fault_of (environment_of setup) ≡ None
  pub tables : List RouteTable
  pub filled : HaveTheirRoutes setup.tables tables
  pub fails : FailsAtFirst contents (environment_of setup) (nodes_in how setup) e

-- why no pipeline is loaded: what is wrong with the text, else the first node that is not loaded; but memory can run out once the text is known to be
-- UTF-8
abbrev pub IsUnloaded : Option FileMap → How → List ℕ → PipeError → Type 0
IsUnloaded contents how text e = IsFaultOf text e ⊎ HasBadNode contents how text e
