-- The only node is that of the only port.
use Rattle.dp_load.specs.Views.{node_names}
use Rattle.dp_load.proofs.SinglePlans.{single_nodes}
use Rattle.dp_load.proofs.single.load_single.Goals as goal

pub new-requires-2-clause-nodes : goal.new-requires-2-clause-nodes
new-requires-2-clause-nodes g c =
    single_nodes (g.F.Files.contents c.args.files.now) c.args.env (node_names c.in_ok-port.port.files) c.in_ok-node.node c.in_ok-nodes.nodes.items
    c.requires.port c.in_ok-nodes.ensures.ok c.in_ok-node.ensures.loaded
