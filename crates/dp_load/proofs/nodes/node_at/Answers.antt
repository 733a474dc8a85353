-- The node is that of the names at its index.
use Rattle.std.proofs.Common.{◌≡◌, ◌+◌, ◌-◌, ◌<◌, ◌∙◌, ap, Some, length, arith}
use Rattle.dp_model.specs.declared.env.Entry.TheVariants.{Port}
use Rattle.dp_load.specs.declared.file_names.PortNames.{PortNames}
use Rattle.dp_load.specs.Views.{node_names}
use Rattle.dp_load.specs.Nodes.{node_of}
use Rattle.dp_load.proofs.Named.{port_at, ring_at}
use Rattle.dp_load.proofs.nodes.node_at.Goals as goal

pub returns-then-index-ports : goal.returns-then-index-ports
returns-then-index-ports c =
    λ how. port_at how c.args.ports.now c.args.rings.now c.args.index c.index-ports-index.result c.if-index-ports.true c.index-ports-index.is
    ∙ ap (λ (port : PortNames). Some (node_of how (Port c.args.index) (node_names port.files))) c.index-ports-index.is

pub returns-else-index-ports : goal.returns-else-index-ports
returns-else-index-ports c =
    let split : c.args.index ≡ length c.args.ports.now + (c.args.index - length c.args.ports.now) = omega arith in
    let below : c.args.index - length c.args.ports.now < length c.args.rings.now = omega (arith, c.requires.index) in
    λ how. ring_at how c.args.ports.now c.args.rings.now c.args.index (c.args.index - length c.args.ports.now) c.index-rings-ring.result split below
    c.index-rings-ring.is
