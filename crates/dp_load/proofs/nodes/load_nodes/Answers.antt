-- One more node, or the first that is not loaded.
use Rattle.std.proofs.Common.{◌≤◌, ◌∙◌, List, length, map, inr, arith}
use Rattle.std.proofs.lemmas.List.{length-map}
use Rattle.std.proofs.lemmas.Result.{err_from_is_err_and}
use Rattle.dp_load.specs.Setup.{NodeFiles}
use Rattle.dp_load.specs.Views.{node_names}
use Rattle.dp_load.specs.Nodes.{Node, node_of, all_nodes}
use Rattle.dp_load.proofs.Gathered.{one_more, fails_here, how_many, whole}
use Rattle.dp_load.proofs.nodes.load_nodes.Goals as goal

pub returns-in_err-checked-clause-fails : goal.returns-in_err-checked-clause-fails
returns-in_err-checked-clause-fails g c =
    let nodes : List Node = all_nodes c.args.how (map (λ port. node_names port.files) c.args.ports.now) (map node_names c.args.rings.now) in
    let node : Node = node_of c.args.how c.node_at-node.result.0 (node_names c.node_at-node.result.1.now) in
    let p = err_from_is_err_and c.from_residual.result c.from_residual.ensures.1 in
    rw (p.1, p.2) (inr (fails_here (g.F.Files.contents c.args.files.now) (g.F.Files.contents c.loop-index.files) c.args.env.now nodes c.loop-index.index node
    c.loop-index.nodes.items c.in_err-checked.field-0.0
    c.loop-index.invariant.stays (c.node_at-node.ensures c.args.how) c.loop-index.invariant.loaded c.in_err-checked.ensures.fails))

pub loop-index-preserved : goal.loop-index-preserved
loop-index-preserved g c =
    let nodes : List Node = all_nodes c.args.how (map (λ port. node_names port.files) c.args.ports.now) (map node_names c.args.rings.now) in
    let node : Node = node_of c.args.how c.node_at-node.result.0 (node_names c.node_at-node.result.1.now) in
    record {
      stays = c.in_ok-checked.ensures.stays ∙ c.loop-index.invariant.stays;
      loaded = rw c.in_ok-push.ensures.items
          (one_more (g.F.Files.contents c.args.files.now) (g.F.Files.contents c.loop-index.files) c.args.env.now nodes c.loop-index.index node
          c.loop-index.nodes.items c.in_ok-checked.checked
          c.loop-index.invariant.stays (c.node_at-node.ensures c.args.how) c.loop-index.invariant.loaded c.in_ok-checked.ensures.loaded);
    }

pub returns-clause-loaded : goal.returns-clause-loaded
returns-clause-loaded g c =
    let ports : List NodeFiles = map (λ port. node_names port.files) c.args.ports.now in
    let rings : List NodeFiles = map node_names c.args.rings.now in
    let many : length (all_nodes c.args.how ports rings) ≤ c.loop-index.index =
    omega (
      arith,
      how_many c.args.how ports rings,
      length-map c.args.ports.now (λ port. node_names port.files),
      length-map c.args.rings.now node_names,
      c.loop-index-test.false,
    ) in
    whole (g.F.Files.contents c.args.files.now) c.args.env.now (all_nodes c.args.how ports rings) c.loop-index.index c.loop-index.nodes.items many
    c.loop-index.invariant.loaded
