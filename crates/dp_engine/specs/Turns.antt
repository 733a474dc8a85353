-- Internal: the state in which a turn's node run begins.
use Rattle.std.specs.Prelude.{◌≡◌, ℕ, ◌+◌, List, length}
use Rattle.dp_model.specs.Environments.{room_at}
use Rattle.dp_model.specs.Buffers.{Number, Buffers}
use Rattle.dp_model.specs.Packets.{needed, received, Filled, AreFresh}
use Rattle.dp_model.specs.Machine.{Setting, World, State, live}
use Rattle.dp_model.specs.Runs.{first_state, between}

-- a packet with these bytes is in the first packet register, and the port's number in the first number register; all else is empty and 0
pub record IsReceived (setting : Setting) (pool port : ℕ) (bytes : List ℕ) (w : World) (s : State) : Type 0 where
  pub numbers : List Number
  pub buffers : Buffers
  pub fresh : AreFresh setting.env.pools (live (between w)) pool (needed setting.env.pools pool (length bytes)) numbers
  pub filled : Filled numbers (received (room_at setting.env.pools pool) numbers (length bytes)) bytes w.buffers buffers
  pub state : s ≡ first_state (received (room_at setting.env.pools pool) numbers (length bytes)) port (record w { buffers = buffers; calls = w.calls + 1 })

abbrev pub with_one_call : World → World
with_one_call w = record w { calls = w.calls + 1 }
