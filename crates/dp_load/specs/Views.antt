-- Internal, except `node_names`: the values of the reader's types.
use Rattle.std.specs.Prelude.{◌≡◌, ℕ, List, map, option_map, string_bytes, Result, Ok, Err}
use Rattle.toml.specs.Data.{Data}
use Rattle.toml.specs.View as toml
use Rattle.toml.specs.declared.value.Value.{Value}
use Rattle.dp_load.specs.declared.error.PipeError.{PipeError}
use Rattle.dp_load.specs.declared.error.PipeError.TheVariants.{Memory, BadKey}
use Rattle.dp_load.specs.declared.file_names.NodeNames.{NodeNames}
use Rattle.dp_load.specs.declared.file_names.PortNames.{PortNames}
use Rattle.dp_load.specs.declared.setup.NodeFiles.{NodeFiles}
use Rattle.dp_load.specs.declared.setup.TablePart.{TablePart}
use Rattle.dp_load.specs.declared.setup.RingPart.{RingPart}
use Rattle.dp_load.specs.declared.setup.PortPart.{PortPart}
use Rattle.dp_load.specs.declared.setup.Setup.{Setup}
use Rattle.dp_load.specs.Setup as spec

-- the data of values
abbrev pub values : List Value → List Data
values vs = map toml.view vs

-- the values of borrowed names and parts
abbrev pub node_files : NodeFiles → spec.NodeFiles
node_files f = record { node = f.node.now; cert = option_map (λ text. text.now) f.cert }

abbrev pub table_part : TablePart → spec.TablePart
table_part t = record { rules = t.rules; groups = t.groups; routes = values t.routes.now }

abbrev pub ring_part : RingPart → spec.RingPart
ring_part r = record { spec = r.spec; files = node_files r.files }

abbrev pub port_part : PortPart → spec.PortPart
port_part p = record { spec = p.spec; files = node_files p.files; input = p.input.now; output = p.output.now }

abbrev pub setup : Setup → spec.Setup
setup s = record {
  region = s.region;
  pools = s.pools.items;
  tables = map table_part s.tables.items;
  rings = map ring_part s.rings.items;
  ports = map port_part s.ports.items;
}

-- names that are kept
abbrev pub node_names : NodeNames → spec.NodeFiles
node_names n = record { node = string_bytes n.node; cert = option_map string_bytes n.cert }

-- the names of a port: those of its node, its input and its output
abbrev pub port_names : PortNames → spec.NodeFiles × List ℕ × List ℕ
port_names n = (node_names n.files, string_bytes n.input, string_bytes n.output)

-- the error is that of the definition, unless memory ran out
abbrev pub FailsAs : {Y : Type 0} → PipeError → Result Y spec.Bad → Type 0
FailsAs Memory read = Unit {0}
FailsAs (BadKey kind index) read = read ≡ Err (kind, index)
FailsAs _ read = ⊥

-- the code returns what the definition does, seen through `view`, unless memory ran out
abbrev pub Gives : {X Y : Type 0} → (X → Y) → Result X PipeError → Result Y spec.Bad → Type 0
Gives view (Ok x) read = read ≡ Ok (view x)
Gives view (Err e) read = FailsAs e read
