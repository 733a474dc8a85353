-- The configuration in a pipeline file, or why a file has none.
use Rattle.std.specs.Prelude.{◌≡◌, ℕ, min, List, [], ◌∷◌, length, map, take, slice_get, Option, Some, None, Ok, Err}
use Rattle.std.specs.Str.{IsUtf8}
use Rattle.toml.specs.Data.{Members}
use Rattle.toml.specs.Parse.{parse_document}
use Rattle.dp_lpm.specs.Routes.{RouteTable}
use Rattle.dp_model.specs.Environments.{Environment, fault_of}
use Rattle.dp_load.specs.declared.config.Config.{Config}
use Rattle.dp_load.specs.declared.error.PipeError.{PipeError}
use Rattle.dp_load.specs.declared.error.PipeError.TheVariants.{Memory, NotToml, BadKey, BadEnv, BadTable}
use Rattle.dp_load.specs.declared.error.RouteError.{RouteError}
use Rattle.dp_load.specs.Routes.{TakesAll, IsFirstRefused}
use Rattle.dp_load.specs.Setup.{Setup, TablePart, PortPart, NodeFiles, setup_in}
use Rattle.dp_load.specs.Views.{node_names, port_names}

-- the bytes are a TOML text with this table
abbrev pub IsTomlTable : List ℕ → Members → Type 0
IsTomlTable text top = IsUtf8 text × (parse_document text ≡ Some top)

-- the bytes are not a TOML text
abbrev pub IsNotToml : List ℕ → Type 0
IsNotToml text = IsUtf8 text → parse_document text ≡ None

-- the environment in a file
abbrev pub environment_of : Setup → Environment
environment_of s = record { pools = s.pools; tables = min (length s.tables) 255; rings = map (λ r. r.spec) s.rings; ports = map (λ p. p.spec) s.ports }

-- the names of a port: those of its node, its input and its output
abbrev pub names_of_port : PortPart → NodeFiles × List ℕ × List ℕ
names_of_port p = (p.files, p.input, p.output)

-- a table without routes
abbrev pub empty_of : TablePart → RouteTable
empty_of t = record { routes = []; max_rules = t.rules; groups = t.groups }

-- the table has the routes of its list, added in order
abbrev pub HasItsRoutes : TablePart → RouteTable → Type 0
HasItsRoutes t table = TakesAll (empty_of t) table t.routes

-- each table has the routes of its list
abbrev pub HaveTheirRoutes : List TablePart → List RouteTable → Type 0
HaveTheirRoutes [] [] = Unit {0}
HaveTheirRoutes (t ∷ ts) (table ∷ tables) = HasItsRoutes t table × HaveTheirRoutes ts tables
HaveTheirRoutes _ _ = ⊥

-- the first route of the table with this index that is refused
abbrev pub IsRouteFault : Option TablePart → ℕ → RouteError → Type 0
IsRouteFault None route cause = ⊥
IsRouteFault (Some t) route cause = IsFirstRefused (empty_of t) t.routes route cause

-- the tables before this index have their routes, and this is its first route that is refused
pub record IsTableFault (ts : List TablePart) (index route : ℕ) (cause : RouteError) : Type 0 where
  pub filled : List RouteTable
  pub before : HaveTheirRoutes (take index ts) filled
  pub here : IsRouteFault (slice_get ts index) route cause

-- a configuration: the region, the environment, the tables and the file names
pub record IsConfig (s : Setup) (c : Config) : Type 0 where
  pub region : c.region ≡ s.region
  pub fits : fault_of (environment_of s) ≡ None
  pub env : c.env ≡ environment_of s
  pub tables : HaveTheirRoutes s.tables c.tables.items
  pub ports : map port_names c.ports.items ≡ map names_of_port s.ports
  pub rings : map node_names c.rings.items ≡ map (λ r. r.files) s.rings

-- why a setup has no configuration
abbrev pub IsSetupFault : Setup → PipeError → Type 0
IsSetupFault s Memory = Unit {0}
IsSetupFault s (BadEnv cause) = fault_of (environment_of s) ≡ Some cause
IsSetupFault s (BadTable table route cause) = (fault_of (environment_of s) ≡ None) × IsTableFault s.tables table route cause
IsSetupFault s _ = ⊥

-- the text is a file with this configuration
pub record IsConfigOf (text : List ℕ) (c : Config) : Type 0 where
  pub top : Members
  pub setup : Setup
  pub toml : IsTomlTable text top
  pub reads : setup_in top ≡ Ok setup
  pub config : IsConfig setup c

-- the text has a table, whose setup satisfies this
pub record HasSetup (text : List ℕ) (P : Setup → Type 0) : Type 0 where
  pub top : Members
  pub setup : Setup
  pub toml : IsTomlTable text top
  pub reads : setup_in top ≡ Ok setup
  pub holds : P setup

-- why a text has no configuration; that it is not UTF-8 is found without memory
abbrev pub IsFaultOf : List ℕ → PipeError → Type 0
IsFaultOf text Memory = IsUtf8 text
IsFaultOf text NotToml = IsNotToml text
IsFaultOf text (BadKey kind index) = (top : Members) × IsTomlTable text top × (setup_in top ≡ Err (kind, index))
IsFaultOf text (BadEnv cause) = HasSetup text (λ s. IsSetupFault s (BadEnv cause))
IsFaultOf text (BadTable table route cause) = HasSetup text (λ s. IsSetupFault s (BadTable table route cause))
IsFaultOf text _ = ⊥

-- ---- the parts of this that single calls return

-- why a text has no table
abbrev pub IsTextFault : List ℕ → PipeError → Type 0
IsTextFault text Memory = IsUtf8 text
IsTextFault text NotToml = IsNotToml text
IsTextFault text _ = ⊥

-- the environment is accepted, and this is it
pub record IsEnv (s : Setup) (e : Environment) : Type 0 where
  pub fits : fault_of (environment_of s) ≡ None
  pub same : e ≡ environment_of s

-- why the environment is refused
abbrev pub IsEnvFault : Setup → PipeError → Type 0
IsEnvFault s Memory = Unit {0}
IsEnvFault s (BadEnv cause) = fault_of (environment_of s) ≡ Some cause
IsEnvFault s _ = ⊥

-- why a table does not have its routes
abbrev pub IsFillFault : ℕ → TablePart → PipeError → Type 0
IsFillFault index t Memory = Unit {0}
IsFillFault index t (BadTable table route cause) = (table ≡ index) × IsFirstRefused (empty_of t) t.routes route cause
IsFillFault index t _ = ⊥

-- why not all tables have their routes
abbrev pub IsTablesFault : List TablePart → PipeError → Type 0
IsTablesFault ts Memory = Unit {0}
IsTablesFault ts (BadTable table route cause) = IsTableFault ts table route cause
IsTablesFault ts _ = ⊥
