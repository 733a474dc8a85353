-- The nodes up to the index are loaded, and the files are known as before.
use Rattle.std.proofs.Common.{◌≡◌, map, take}
use Rattle.dp_load.specs.Views.{node_names}
use Rattle.dp_load.specs.Nodes.{all_nodes, AreLoaded}
use Rattle.dp_load.proofs.nodes.load_nodes.Given as goal

abbrev pub invariant-loop-index : goal.invariant-loop-index
invariant-loop-index g l = record {
  stays : g.F.Files.contents l.files ≡ g.F.Files.contents l.fn.files;
  loaded : AreLoaded (g.F.Files.contents l.fn.files) l.env
      (take l.index (all_nodes l.how (map (λ port. node_names port.files) l.ports) (map node_names l.rings)))
      l.nodes.items;
}
