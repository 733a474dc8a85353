-- `names_of_rings`: the names of the rings so far.
use Rattle.std.proofs.Common.{◌≡◌, take, map}
use Rattle.dp_load.specs.Views.{node_files, node_names}
use Rattle.dp_load.proofs.config.names_of_rings.Given as goal

abbrev pub invariant-loop-ring : goal.invariant-loop-ring
invariant-loop-ring l = map node_names l.names.items ≡ map (λ r. node_files r.files) (take l.ring-index l.rings)
