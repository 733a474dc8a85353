-- The largest batch has room for what waits in the transmit lists.
use Rattle.std.proofs.Common.{◌*◌, ap, arith}
use Rattle.dp_engine.specs.Batches.{all_buffers, widest}
use Rattle.dp_engine.specs.Engines.{EngineState}
use Rattle.dp_engine.proofs.Batches.{rest_fits}
use Rattle.dp_engine.proofs.engine.Engine.copy_sent.Goals as goal

pub copy_lists-requires-clause-records : goal.copy_lists-requires-clause-records
copy_lists-requires-clause-records g c =
    let fit = rest_fits c.self.inside.context.setting c.self.inside.machine.state.world c.self.invariant.rests.rest in
    omega (arith, c.requires.records, fit.few, ap (λ (e : EngineState). all_buffers e.setting.env.pools) c.self.view_is)

pub copy_lists-requires-clause-bytes : goal.copy_lists-requires-clause-bytes
copy_lists-requires-clause-bytes g c =
    let fit = rest_fits c.self.inside.context.setting c.self.inside.machine.state.world c.self.invariant.rests.rest in
    omega (arith, c.requires.bytes, fit.small, ap (λ (e : EngineState). all_buffers e.setting.env.pools * widest e.setting.env.pools) c.self.view_is)
