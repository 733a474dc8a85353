-- The invariant at a node's index.
use Rattle.dp_load.proofs.Planned.{port_node, ring_node}
use Rattle.dp_load.proofs.pipeline.Pipeline.node.Goals as goal

pub returns-clause-port : goal.returns-clause-port
returns-clause-port c = port_node _ c.args.self.now c.args.k c.index.result.now c.self.view_is c.self.invariant c.requires c.index.ensures

pub returns-clause-ring : goal.returns-clause-ring
returns-clause-ring c = ring_node _ c.args.self.now c.args.k c.index.result.now c.self.view_is c.self.invariant c.requires c.index.ensures
