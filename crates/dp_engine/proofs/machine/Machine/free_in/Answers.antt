-- The buffers that no segment of the layer refers to are those that none of the machine does.
use Rattle.std.proofs.Common.{◌∙◌, sym, ap}
use Rattle.dp_model.specs.Packets.{available}
use Rattle.dp_model.specs.Machine.{live}
use Rattle.dp_model.specs.Stores.{segments_of}
use Rattle.dp_engine.proofs.Counts.{available_same}
use Rattle.dp_engine.proofs.Receive.{pools_of}
use Rattle.dp_engine.proofs.Registers.{counts}
use Rattle.dp_engine.proofs.machine.Machine.free_in.Goals as goal

pub returns-in-Some-clause-some : goal.returns-in-Some-clause-some
returns-in-Some-clause-some c =
    let state = c.args.self.now.state in
    let store = c.self.inside.mbufs.store in
    let same = counts _ _ c.self.view_is c.self.invariant in
    let pools = pools_of _ _ c.self.view_is in
    c.in-Some.ensures.some.1 ∙ sym (available_same store.pools (live state) (segments_of store) c.args.pool same)
    ∙ ap (λ p. available p (live state) c.args.pool) pools
