-- What commands are about: the environment, and the nodes with the names of their files.
use Rattle.std.specs.Prelude.{ℕ, zero, suc, ◌-◌, nat_lt, if◌then◌else◌, List, [], ◌∷◌, Option, Some, None, option_map}
use Rattle.dp_model.specs.declared.env.Entry.{Entry}
use Rattle.dp_model.specs.declared.env.Entry.TheVariants.{Port, Ring}
use Rattle.dp_model.specs.Environments.{Environment}
use Rattle.dp_load.specs.declared.config.Config.{Config}
use Rattle.dp_load.specs.declared.nodes.How.TheVariants.{Given}
use Rattle.dp_load.specs.Nodes as nodes
use Rattle.dp_load.specs.Surveys.{files_at}
use Rattle.dp_sources.specs.declared.subject.Asked.{Asked}
use Rattle.dp_sources.specs.declared.subject.Subject.{Subject}
use Rattle.dp_sources.specs.declared.subject.Subject.TheVariants.{Pipeline, Single}

-- the environment of `dpv one`: one pool of 64 buffers with room for 2,176 bytes and no cache, and one port that takes packets of one segment
abbrev pub one_port : Environment
one_port = record {
  pools = record { count = 64; cache = 0; room = 2176 } ∷ [];
  tables = 0;
  rings = [];
  ports = record { pool = 0; segs = 1; queue = 32 } ∷ [];
}

-- a node with the names of its files
abbrev pub asked_node : Asked → nodes.Node
asked_node asked = record { entry = asked.node; program = asked.program.now; cert = option_map (λ name. name.now) asked.cert }

-- the node of a configuration
abbrev pub node_in : Config → Entry → Option nodes.Node
node_in config entry = option_map (λ files. nodes.node_of Given entry files) (files_at config entry)

-- a program by itself, at port 0
abbrev pub node_alone : List ℕ → Option (List ℕ) → Entry → Option nodes.Node
node_alone program cert (Port zero) = Some (record { entry = Port 0; program = program; cert = cert })
node_alone program cert (Port (suc port)) = None
node_alone program cert (Ring ring) = None

abbrev pub env_of : Subject → Environment
env_of (Pipeline file text survey) = survey.now.config.env
env_of (Single env program cert) = env.now

-- the node with an entry, if there is one
abbrev pub node_of : Subject → Entry → Option nodes.Node
node_of (Pipeline file text survey) entry = node_in survey.now.config entry
node_of (Single env program cert) entry = node_alone program.now (option_map (λ name. name.now) cert) entry

-- the node with an index: eight ports, then eight rings
abbrev pub entry_at : ℕ → Entry
entry_at index = if nat_lt index 8 then Port index else Ring (index - 8)
