-- The names in a pipeline file for one node.
use Rattle.std.specs.Prelude.{Option, option_map, slice_get}
use Rattle.dp_model.specs.declared.env.Entry.{Entry}
use Rattle.dp_model.specs.declared.env.Entry.TheVariants.{Port, Ring}
use Rattle.dp_load.specs.declared.config.Config.{Config}
use Rattle.dp_load.specs.Setup.{NodeFiles}
use Rattle.dp_load.specs.Views.{node_names}

-- the file names of the node with this entry, if there is one
abbrev pub files_at : Config → Entry → Option NodeFiles
files_at config (Port port) = option_map (λ names. node_names names.files) (slice_get config.ports.items port)
files_at config (Ring ring) = option_map node_names (slice_get config.rings.items ring)
