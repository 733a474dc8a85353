-- The worlds in which runs start.
use Rattle.std.specs.Prelude.{◌≡◌, [], length, map}
use Rattle.dp_model.specs.Environments.{Environment, room_at}
use Rattle.dp_model.specs.Buffers.{Number, IsNumber, AreBytes, bytes_of}
use Rattle.dp_model.specs.Machine.{World}

-- the world before the first record: all rings and transmit lists are empty, each buffer has its room with any bytes, and all counts are 0
pub record IsStart (env : Environment) (w : World) : Type 0 where
  pub rings : w.rings ≡ map (λ _. []) env.rings
  pub outboxes : w.outboxes ≡ map (λ _. []) env.ports
  pub rooms : (b : Number) → IsNumber env.pools b → length (bytes_of w.buffers b) ≡ room_at env.pools b.pool
  pub bytes : AreBytes w.buffers
  pub calls : w.calls ≡ 0
  pub steps : w.steps ≡ 0
  pub cuts : w.cuts ≡ 0
