-- Pipelines as contracts see them.
use Rattle.std.specs.Prelude.{◌≡◌, ℕ, ◌+◌, ◌<◌, List, length, map, Some, None, slice_get, string_bytes}
use Rattle.dp_model.specs.declared.env.Entry.{Entry}
use Rattle.dp_model.specs.declared.env.Entry.TheVariants.{Port, Ring}
use Rattle.dp_model.specs.Environments.{Environment, fault_of}
use Rattle.dp_model.specs.Rules.{Question}
use Rattle.dp_region.specs.Region.{IsRegionSize}
use Rattle.dp_lpm.specs.Routes.{RouteTable, HasSmallHops}
use Rattle.dp_check.specs.Faults.{IsChecked}
use Rattle.dp_load.specs.declared.file_names.PortNames.{PortNames}

-- a pipeline: the region in bytes, a checked program for each port and then for each ring, and the captures that each port reads and writes
pub record Plan : Type 0 where
  pub env : Environment
  pub region : ℕ
  pub tables : List RouteTable
  pub nodes : List Question
  pub inputs : List (List ℕ)
  pub outputs : List (List ℕ)

-- checked with this environment and entry
pub record IsFor (env : Environment) (entry : Entry) (question : Question) : Type 0 where
  pub env_is : question.env ≡ env
  pub entry_is : question.entry ≡ entry
  pub checked : IsChecked question

-- one node for each port and then one for each ring, each checked with the environment and its entry
pub record HasNodes (env : Environment) (nodes : List Question) : Type 0 where
  pub count : length nodes ≡ length env.ports + length env.rings
  pub ports : (port : ℕ) (question : Question) → port < length env.ports → slice_get nodes port ≡ Some question → IsFor env (Port port) question
  pub rings : (ring : ℕ) (question : Question) → slice_get nodes (length env.ports + ring) ≡ Some question → IsFor env (Ring ring) question

-- the environment and the hops of the tables are within the limits, and the parts of a pipeline fit together
pub record IsPlan (p : Plan) : Type 0 where
  pub limits : fault_of p.env ≡ None
  pub region : IsRegionSize p.region
  pub nodes : HasNodes p.env p.nodes
  pub tables : length p.tables ≡ p.env.tables
  pub hops : (k : ℕ) (t : RouteTable) → slice_get p.tables k ≡ Some t → HasSmallHops t
  pub inputs : length p.inputs ≡ length p.env.ports
  pub outputs : length p.outputs ≡ length p.env.ports

-- the captures that ports read
abbrev pub input_of : PortNames → List ℕ
input_of port = string_bytes port.input

-- the captures that ports write
abbrev pub output_of : PortNames → List ℕ
output_of port = string_bytes port.output

-- the value of a pipeline with these parts
abbrev pub plan_with : Environment → ℕ → List RouteTable → List Question → List PortNames → Plan
plan_with env region tables nodes ports = record {
  env = env;
  region = region;
  tables = tables;
  nodes = nodes;
  inputs = map input_of ports;
  outputs = map output_of ports;
}
