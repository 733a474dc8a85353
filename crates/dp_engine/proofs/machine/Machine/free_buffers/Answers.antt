use Rattle.std.proofs.Common.{◌∙◌, sym, ap}
use Rattle.dp_model.specs.Packets.{available}
use Rattle.dp_model.specs.Machine.{live}
use Rattle.dp_model.specs.Runs.{between}
use Rattle.dp_model.specs.Stores.{segments_of}
use Rattle.dp_engine.proofs.Counts.{available_same}
use Rattle.dp_engine.proofs.Receive.{idle_of, live_same, pools_of}
use Rattle.dp_engine.proofs.machine.Machine.free_buffers.Goals as goal

pub available-requires : goal.available-requires
available-requires c =
    let pools = pools_of _ _ c.self.view_is in
    rw pools c.requires.pool

pub returns : goal.returns
returns c =
    let same = live_same c.self.view_is (idle_of c.self.view_is c.self.invariant c.requires.idle) in
    let pools = pools_of _ _ c.self.view_is in
    c.available.ensures
    ∙ sym (available_same c.self.inside.mbufs.store.pools (live (between c.args.self.now.state.world)) (segments_of c.self.inside.mbufs.store) c.args.pool same)
    ∙ ap (λ p. available p (live (between c.args.self.now.state.world)) c.args.pool) pools
