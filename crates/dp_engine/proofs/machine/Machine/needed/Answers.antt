-- The pools of a machine are those of its mbufs.
use Rattle.dp_engine.proofs.Receive.{pools_of}
use Rattle.dp_engine.proofs.machine.Machine.needed.Goals as goal

pub needed-requires : goal.needed-requires
needed-requires c =
    let pools = pools_of _ _ c.self.view_is in
    rw pools c.requires

pub returns : goal.returns
returns c =
    let pools = pools_of _ _ c.self.view_is in
    rw pools at c.needed.ensures
