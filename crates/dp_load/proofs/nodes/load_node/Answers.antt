-- What is inferred is loaded.
use Rattle.dp_load.specs.Views.{node_names}
use Rattle.dp_load.specs.Nodes.{node_of}
use Rattle.dp_load.proofs.Gathered.{all_loaded}
use Rattle.dp_load.proofs.nodes.load_node.Goals as goal

pub returns-in-None-clause-loaded : goal.returns-in-None-clause-loaded
returns-in-None-clause-loaded g c =
    all_loaded (g.F.Files.contents c.args.files.now) c.args.env.now (node_of c.args.how c.args.node (node_names c.args.names.now)) c.in_ok-program.program
    c.inferred.result
    (rw c.as_str.ensures.value at c.in_ok-program.ensures.read) c.in-None.ensures
    c.inferred.ensures.env c.inferred.ensures.entry c.inferred.ensures.program c.inferred.ensures.checked c.inferred.ensures.cert c.inferred.ensures.most
