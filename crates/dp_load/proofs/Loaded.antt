-- A configuration with its nodes is a pipeline.
use Rattle.std.proofs.Common.{◌≡◌, ℕ, suc, ◌≤◌, min, ◌⊎◌, inl, inr, Bool, true, false, List, [], ◌∷◌, length, map, Option, None, Some, refl, ap, sym, ◌∙◌}
use Rattle.std.proofs.Common.{subst, arith}
use Rattle.std.proofs.lemmas.List.{length-map}
use Rattle.dp_model.specs.Environments.{Environment, fault_of}
use Rattle.dp_model.specs.Rules.{Question}
use Rattle.dp_lpm.specs.Routes.{RouteTable}
use Rattle.dp_load.specs.declared.config.Config.{Config}
use Rattle.dp_load.specs.declared.error.PipeError.{PipeError}
use Rattle.dp_load.specs.declared.error.PipeError.TheVariants.{Memory}
use Rattle.dp_load.specs.declared.nodes.How.{How}
use Rattle.dp_load.specs.Setup.{Setup, TablePart, NodeFiles}
use Rattle.dp_load.specs.Views.{node_names, port_names}
use Rattle.dp_load.specs.Config.{environment_of, names_of_port, HaveTheirRoutes, IsConfig, IsConfigOf, IsFaultOf}
use Rattle.dp_load.specs.Files.{FileMap}
use Rattle.dp_load.specs.Nodes.{Node, all_nodes, AreLoaded, FailsAtFirst}
use Rattle.dp_load.specs.Pipelines.{Plan, HasNodes, input_of, output_of}
use Rattle.dp_load.specs.Laws.{few}
use Rattle.dp_load.specs.Loads.{nodes_in, IsLoadedFrom, IsUnloaded}
use Rattle.dp_load.proofs.Environments.{map_twice}
use Rattle.dp_load.proofs.Planned.{has_nodes}

-- ---- how many there are

held_length : (ts : List TablePart) (tables : List RouteTable) → HaveTheirRoutes ts tables → length tables ≡ length ts
held_length [] [] all = refl
held_length [] (x ∷ tables) all = absurd all
held_length (t ∷ ts) [] all = absurd all
held_length (t ∷ ts) (x ∷ tables) all = ap suc (held_length ts tables all.1)

pub ports_of : (s : Setup) (c : Config) → IsConfig s c → length c.ports.items ≡ length c.env.ports
ports_of s c is =
    sym (length-map c.ports.items port_names) ∙ ap length is.ports ∙ length-map s.ports names_of_port ∙ sym (length-map s.ports (λ p. p.spec))
    ∙ sym (ap (λ (e : Environment). length e.ports) is.env)

rings_of : (s : Setup) (c : Config) → IsConfig s c → length c.rings.items ≡ length c.env.rings
rings_of s c is =
    sym (length-map c.rings.items node_names) ∙ ap length is.rings ∙ length-map s.rings (λ r. r.files) ∙ sym (length-map s.rings (λ r. r.spec))
    ∙ sym (ap (λ (e : Environment). length e.rings) is.env)

pub limits_of : (s : Setup) (c : Config) → IsConfig s c → fault_of c.env ≡ None
limits_of s c is = subst (λ e. fault_of e ≡ None) (sym is.env) is.fits

-- it has at most eight parts of each kind
pub few_parts : (s : Setup) (c : Config) → IsConfig s c → (length c.ports.items ≤ 8) × (length c.rings.items ≤ 8)
few_parts s c is =
    let (ports, rings, tables) = few c.env (limits_of s c is) in
    (omega (arith, ports_of s c is, ports), omega (arith, rings_of s c is, rings))

pub tables_of : (s : Setup) (c : Config) → IsConfig s c → length c.tables.items ≡ c.env.tables
tables_of s c is =
    let (ports, rings, most) = few (environment_of s) is.fits in
    let least : min (length s.tables) 255 ≡ length s.tables = omega (arith, most) in
    held_length s.tables c.tables.items is.tables ∙ sym least ∙ sym (ap (λ (e : Environment). e.tables) is.env)

-- ---- names

abbrev node_part : NodeFiles × List ℕ × List ℕ → NodeFiles
node_part (files, input, output) = files

abbrev input_part : NodeFiles × List ℕ × List ℕ → List ℕ
input_part (files, input, output) = input

abbrev output_part : NodeFiles × List ℕ × List ℕ → List ℕ
output_part (files, input, output) = output

port_files : (s : Setup) (c : Config) → IsConfig s c → map (λ p. node_names p.files) c.ports.items ≡ map (λ p. p.files) s.ports
port_files s c is =
    sym (map_twice port_names node_part c.ports.items) ∙ ap (map node_part) is.ports
    ∙ map_twice names_of_port node_part s.ports

port_inputs : (s : Setup) (c : Config) → IsConfig s c → map input_of c.ports.items ≡ map (λ p. p.input) s.ports
port_inputs s c is =
    sym (map_twice port_names input_part c.ports.items) ∙ ap (map input_part) is.ports
    ∙ map_twice names_of_port input_part s.ports

port_outputs : (s : Setup) (c : Config) → IsConfig s c → map output_of c.ports.items ≡ map (λ p. p.output) s.ports
port_outputs s c is =
    sym (map_twice port_names output_part c.ports.items) ∙ ap (map output_part) is.ports
    ∙ map_twice names_of_port output_part s.ports

-- the nodes by the names that are kept
abbrev pub kept_nodes : How → Config → List Node
kept_nodes how c = all_nodes how (map (λ port. node_names port.files) c.ports.items) (map node_names c.rings.items)

same_nodes : (how : How) (s : Setup) (c : Config) → IsConfig s c → kept_nodes how c ≡ nodes_in how s
same_nodes how s c is =
    ap (λ (ps : List NodeFiles). all_nodes how ps (map node_names c.rings.items)) (port_files s c is)
    ∙ ap (λ (rs : List NodeFiles). all_nodes how (map (λ p. p.files) s.ports) rs) is.rings

-- ---- what is loaded

pub fit_nodes : (contents : Option FileMap) (how : How) (text : List ℕ) (c : Config) (nodes : List Question) → IsConfigOf text c →
    AreLoaded contents c.env (kept_nodes how c) nodes → HasNodes c.env nodes
fit_nodes contents how text c nodes is all =
    has_nodes contents c.env how (map (λ port. node_names port.files) c.ports.items) (map node_names c.rings.items) nodes all
    (length-map c.ports.items (λ port. node_names port.files) ∙ ports_of is.setup c is.config)
    (length-map c.rings.items node_names ∙ rings_of is.setup c is.config)

abbrev pub config_plan : Config → List Question → Plan
config_plan c nodes = record {
  env = c.env;
  region = c.region;
  tables = c.tables.items;
  nodes = nodes;
  inputs = map input_of c.ports.items;
  outputs = map output_of c.ports.items;
}

pub loaded_from : (contents : Option FileMap) (how : How) (text : List ℕ) (c : Config) (nodes : List Question) → IsConfigOf text c →
    AreLoaded contents c.env (kept_nodes how c) nodes → IsLoadedFrom contents how text (config_plan c nodes)
loaded_from contents how text c nodes is all =
    let s : Setup = is.setup in
    let moved : AreLoaded contents (environment_of s) (kept_nodes how c) nodes =
    subst (λ (e : Environment). AreLoaded contents e (kept_nodes how c) nodes) is.config.env all in
    record {
      top = is.top;
      setup = s;
      toml = is.toml;
      reads = is.reads;
      fits = is.config.fits;
      plan = record {
        region = is.config.region;
        env = is.config.env;
        tables = is.config.tables;
        nodes = subst (λ (ns : List Node). AreLoaded contents (environment_of s) ns nodes) (same_nodes how s c is.config) moved;
        inputs = port_inputs s c is.config;
        outputs = port_outputs s c is.config;
      };
    }

pub bad_node : (contents : Option FileMap) (how : How) (text : List ℕ) (c : Config) (e : PipeError) → IsConfigOf text c →
    (e ≡ Memory) ⊎ FailsAtFirst contents c.env (kept_nodes how c) e → IsUnloaded contents how text e
bad_node contents how text c e is h =
    elim h [
      | inl memory ↦ inl (subst (IsFaultOf text) (sym memory) is.toml.0)
      | inr fails ↦
          let s : Setup = is.setup in
          let moved : FailsAtFirst contents (environment_of s) (kept_nodes how c) e =
          subst (λ (x : Environment). FailsAtFirst contents x (kept_nodes how c) e) is.config.env fails in
          inr (record {
            top = is.top;
            setup = s;
            toml = is.toml;
            reads = is.reads;
            fits = is.config.fits;
            tables = c.tables.items;
            filled = is.config.tables;
            fails = subst (λ (ns : List Node). FailsAtFirst contents (environment_of s) ns e) (same_nodes how s c is.config) moved;
          })
    ]
